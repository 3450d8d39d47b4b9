-- Names and literals of one lexeme or a few, and what they stand for.
use Rattle.std.proofs.Common.{◌≡◌, ◌∙◌, ap, refl, sym, inl, inr, ℕ, true, false, List, [], ◌∷◌, ◌++◌, codes, Option, Some, None}
use Rattle.std.specs.Map.{lookup}
use Rattle.std.specs.Option.{option_map}
use Rattle.std.specs.Prelude.{if◌then◌else◌}
use Rattle.std.specs.Str.{encode_utf8_all}
use Rattle.rdf_terms.specs.Literal.{is_tag, tagged, xsd_string}
use Rattle.rdf_terms.specs.Quoted.{IsIriRef}
use Rattle.rdf_terms.specs.Reading.{expect}
use Rattle.rdf_terms.specs.Resolution.{Means}
use Rattle.rdf_terms.specs.Vocabulary.{xsd_integer, xsd_decimal, xsd_double, xsd_boolean}
use Rattle.rdf_tokens.specs.Forms.{IsText, IsPrefix}
use Rattle.rdf_tokens.specs.ValueLaws.{IrisHaveValues, TextsHaveValues, PrefixesAreParts, LocalsAreParts, LocalsHaveValues}
use Rattle.rdf_tokens.specs.Values.{LocalMeans, iri_value, text_value, tag_value, prefix_part, local_part, local_value}
use Rattle.rdf_grammar.specs.Keys.{key_of, same_key}
use Rattle.rdf_grammar.specs.Literals.{literal_of, untagged}
use Rattle.rdf_grammar.specs.MeaningLaws.{typed, Is, HasIri, StandsFor, NameTable, LiteralTable, BaseTable}
use Rattle.rdf_grammar.specs.Productions.{Iri}
use Rattle.rdf_grammar.specs.Prologue.{Prologue, declares, iri_of, moves_base, prefixed as prefixed_iri}
use Rattle.rdf_grammar.specs.Terminals.{Lexemes}
use Rattle.rdf_grammar.specs.declared.lexeme.Lexeme.{Lexeme}
use Rattle.rdf_grammar.specs.declared.tree.Literal.TheVariants as l
use Rattle.rdf_grammar.specs.declared.tree.Name.TheVariants.{Full, Prefixed}
use Rattle.rdf_grammar.specs.declared.word.Word.{Word}
use Rattle.rdf_grammar.specs.declared.word.Word.TheVariants as w
use Rattle.rdf_grammar.proofs.PrologueIris.{resolved_is}

-- what the tag's characters are
tag_is : (tag : List ℕ) → tag_value (64 ∷ tag) ≡ encode_utf8_all tag
unfolding tag_value expect
tag_is tag = refl

-- ---- names

full_is : (p : Prologue) (slice text iri : List ℕ) → text ≡ iri_value slice → Means p.base text iri → iri_of (Full slice) p ≡ Some iri
full_is p slice text iri e m = resolved_is p p.base slice text iri refl e m

prefixed_is : (p : Prologue) (prefix local value iri : List ℕ) → lookup (same_key (key_of prefix)) p.prefixes ≡ Some iri → value ≡ local_value local →
    iri_of (Prefixed prefix local) p ≡ Some (iri ++ value)
unfolding prefixed_iri
prefixed_is p prefix local value iri found e =
    ap (option_map (λ (i : List ℕ). i ++ local_value local)) found ∙ ap (λ (v : List ℕ). Some (iri ++ v)) (sym e)

module _ {T : Type 0} (word : T → Option Word) where
  reference_has : IrisHaveValues → (p : Prologue) (t : Lexeme T) (slice text iri : List ℕ) →
      Is word w.Iri slice t → IsIriRef slice text → Means p.base text iri → HasIri word p (t ∷ []) iri
  reference_has values p t slice text iri is form m = (
    Full t.text,
    inl (record { first = t.text; mid = []; reads = (t, is.0, refl, refl); goes = (refl, refl) }),
    ap (λ (x : List ℕ). iri_of (Full x) p) is.1 ∙ full_is p slice text iri (values slice text form) m,
  )

  prefixed_has : PrefixesAreParts → LocalsAreParts → LocalsHaveValues → (p : Prologue) (t : Lexeme T) (prefix local cs iri : List ℕ) →
      Is word w.Pname (prefix ++ 58 ∷ local) t → IsPrefix prefix → LocalMeans local cs → lookup (same_key (key_of prefix)) p.prefixes ≡ Some iri →
      HasIri word p (t ∷ []) (iri ++ encode_utf8_all cs)
  prefixed_has fronts backs values p t prefix local cs iri is form means found = (
    Prefixed (prefix_part t.text) (local_part t.text),
    inr (record { first = t.text; mid = []; reads = (t, is.0, refl, refl); goes = (refl, refl) }),
    ap (λ (x : List ℕ). iri_of (Prefixed x (local_part t.text)) p) (ap prefix_part is.1 ∙ fronts prefix local form)
        ∙ ap (λ (x : List ℕ). iri_of (Prefixed prefix x) p) (ap local_part is.1 ∙ backs prefix local form)
        ∙ prefixed_is p prefix local (encode_utf8_all cs) iri found (values local cs means),
  )

  pub name_table : IrisHaveValues → PrefixesAreParts → LocalsAreParts → LocalsHaveValues → NameTable word
  name_table iris fronts backs locals = record { reference = reference_has iris; prefixed = prefixed_has fronts backs locals }

  -- ---- literals

  text_of : TextsHaveValues → (t : Lexeme T) (slice cs : List ℕ) → Is word w.Text slice t → IsText slice cs → text_value t.text ≡ encode_utf8_all cs
  text_of values t slice cs is form = ap text_value is.1 ∙ sym (values slice cs form)

  string_has : TextsHaveValues → (p : Prologue) (t : Lexeme T) (slice cs : List ℕ) → Is word w.Text slice t → IsText slice cs →
      StandsFor word p (t ∷ []) (typed (encode_utf8_all cs) xsd_string)
  unfolding literal_of
  string_has values p t slice cs is form = (
    l.Plain t.text,
    inl (record { first = t.text; mid = []; reads = (t, is.0, refl, refl); goes = inr (inr (refl, refl)) }),
    ap (λ (x : List ℕ). Some (typed x xsd_string)) (text_of values t slice cs is form),
  )

  tagged_is : (lexical tag other : List ℕ) → tag ≡ other → is_tag other ≡ true → (if is_tag tag then Some (tagged lexical tag) else None) ≡ Some (tagged lexical other)
  tagged_is lexical tag other e is = ap (λ (x : List ℕ). if is_tag x then Some (tagged lexical x) else None) e ∙ rw is refl

  tagged_has : TextsHaveValues → (p : Prologue) (t u : Lexeme T) (slice cs tag : List ℕ) → Is word w.Text slice t → IsText slice cs → Is word w.Tag (64 ∷ tag) u →
      is_tag (encode_utf8_all tag) ≡ true → StandsFor word p (t ∷ u ∷ []) (tagged (encode_utf8_all cs) (encode_utf8_all tag))
  unfolding literal_of
  tagged_has values p t u slice cs tag is form behind fits = (
    l.Tagged t.text u.text,
    inl (record {
      first = t.text;
      mid = u ∷ [];
      reads = (t, is.0, refl, refl);
      goes = inl (record { first = u.text; mid = []; reads = (u, behind.0, refl, refl); goes = (refl, refl) });
    }),
    tagged_is (text_value t.text) (tag_value u.text) (encode_utf8_all tag) (ap tag_value behind.1 ∙ tag_is tag) fits
        ∙ ap (λ (x : List ℕ). Some (tagged x (encode_utf8_all tag))) (text_of values t slice cs is form),
  )

  typed_has : TextsHaveValues → (p : Prologue) (t caret : Lexeme T) (name : Lexemes T) (slice cs iri : List ℕ) →
      Is word w.Text slice t → IsText slice cs → word caret.terminal ≡ Some w.Caret → HasIri word p name iri →
      StandsFor word p (t ∷ caret ∷ name) (typed (encode_utf8_all cs) iri)
  unfolding literal_of
  typed_has values p t caret name slice cs iri is form is_caret has = (
    l.Typed t.text has.0,
    inl (record {
      first = t.text;
      mid = caret ∷ name;
      reads = (t, is.0, refl, refl);
      goes = inr (inl (record {
        first = tt;
        mid = name;
        reads = (caret, is_caret, refl);
        goes = record { first = has.0; mid = []; reads = has.1; goes = (refl, refl) };
      }));
    }),
    ap (option_map (untagged (text_value t.text))) has.2 ∙ ap (λ (x : List ℕ). Some (typed x iri)) (text_of values t slice cs is form),
  )

  integer_has : (p : Prologue) (t : Lexeme T) (number : List ℕ) → Is word w.Integer number t → StandsFor word p (t ∷ []) (typed (encode_utf8_all number) xsd_integer)
  unfolding literal_of
  integer_has p t number is = (
    l.Integer t.text,
    inr (inl (inl (record { first = t.text; mid = []; reads = (t, is.0, refl, refl); goes = (refl, refl) }))),
    ap (λ (x : List ℕ). Some (typed (encode_utf8_all x) xsd_integer)) is.1,
  )

  decimal_has : (p : Prologue) (t : Lexeme T) (number : List ℕ) → Is word w.Decimal number t → StandsFor word p (t ∷ []) (typed (encode_utf8_all number) xsd_decimal)
  unfolding literal_of
  decimal_has p t number is = (
    l.Decimal t.text,
    inr (inl (inr (inl (record { first = t.text; mid = []; reads = (t, is.0, refl, refl); goes = (refl, refl) })))),
    ap (λ (x : List ℕ). Some (typed (encode_utf8_all x) xsd_decimal)) is.1,
  )

  double_has : (p : Prologue) (t : Lexeme T) (number : List ℕ) → Is word w.Double number t → StandsFor word p (t ∷ []) (typed (encode_utf8_all number) xsd_double)
  unfolding literal_of
  double_has p t number is = (
    l.Double t.text,
    inr (inl (inr (inr (record { first = t.text; mid = []; reads = (t, is.0, refl, refl); goes = (refl, refl) })))),
    ap (λ (x : List ℕ). Some (typed (encode_utf8_all x) xsd_double)) is.1,
  )

  truth_has : (p : Prologue) (t : Lexeme T) → word t.terminal ≡ Some w.True → StandsFor word p (t ∷ []) (typed (codes "true") xsd_boolean)
  unfolding literal_of
  truth_has p t is =
      (l.Boolean true t.text, inr (inr (inl (record { first = t.text; mid = []; reads = (t, is, refl, refl); goes = (refl, refl) }))), refl)

  falsity_has : (p : Prologue) (t : Lexeme T) → word t.terminal ≡ Some w.False → StandsFor word p (t ∷ []) (typed (codes "false") xsd_boolean)
  unfolding literal_of
  falsity_has p t is =
      (l.Boolean false t.text, inr (inr (inr (record { first = t.text; mid = []; reads = (t, is, refl, refl); goes = (refl, refl) }))), refl)

  pub literal_table : TextsHaveValues → LiteralTable word
  literal_table values = record {
    string = string_has values;
    tagged_string = tagged_has values;
    typed_string = typed_has values;
    integer = integer_has;
    decimal = decimal_has;
    double = double_has;
    truth = truth_has;
    falsity = falsity_has;
  }

-- ---- bases

pub base_table : BaseTable
unfolding moves_base declares
base_table = record { in_force = λ iri p. refl; prefixes = λ iri p. refl; stays = λ prefix iri p. refl }
