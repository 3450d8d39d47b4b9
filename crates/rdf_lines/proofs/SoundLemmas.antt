-- A line says sound terms: texts of Unicode characters, IRIs and literals.
use Rattle.std.proofs.Common.{◌≡◌, ◌<◌, ℕ, Bool, true, false, not, eqb, ltb, ◌||◌, ◌&&◌, List, [], ◌∷◌, ◌++◌, Option, Some, None, refl, sym, ap, ◌∙◌, inl, inr, arith}
use Rattle.std.specs.List.{list_all}
use Rattle.std.specs.Str.{chars, encode_utf8_all, is_utf8, str_to_ascii_lowercase}
use Rattle.std.proofs.lemmas.Bool.{cases_Bool, and_parts, and_from, ltb-true, lt-ltb}
use Rattle.std.proofs.lemmas.Str.{is_utf8-from_IsUtf8, scalars-chars}
use lib.Utf8.{scalar, scalars}
use Rattle.rdf_terms.specs.Characters.{short_escape}
use Rattle.rdf_terms.specs.Escapes.{Writes}
use Rattle.rdf_terms.specs.Quoted.{IsIriCharacter, IsStringCharacter, IsIriRef}
use Rattle.rdf_terms.specs.Iri.{has_scheme, has_forbidden, is_iri}
use Rattle.rdf_terms.specs.Literal.{LiteralParts, xsd_string, lang_string, is_literal, is_tag}
use Rattle.rdf_terms.proofs.CallerLemmas.{written_allowed, some_is, none_is, is_literal-tagged, tag_form, encodes_low, AllLow}
use Rattle.rdf_lines.specs.declared.format.LineFormat.{LineFormat}
use Rattle.rdf_lines.specs.declared.format.LineFormat.TheVariants.{NTriples, NQuads}
use Rattle.rdf_lines.specs.declared.statement.Node.{Node}
use Rattle.rdf_lines.specs.declared.statement.Node.TheVariants as node
use Rattle.rdf_lines.specs.declared.statement.Object.{Object}
use Rattle.rdf_lines.specs.declared.statement.Object.TheVariants as object
use Rattle.rdf_lines.specs.Grammar.{IsString, IsMarked, Gap, Next, typed, HasNode, HasLiteral, HasObject, HasGraph}
use Rattle.rdf_lines.specs.Line.{IsAbsoluteNode, IsAbsoluteObject, IsAbsoluteGraph, IsSoundNode, IsSoundObject, IsSoundGraph, StatementsAreSound}

-- ---- characters

scalars-parts : (xs ys : List ℕ) → scalars (xs ++ ys) ≡ true → (scalars xs ≡ true) × (scalars ys ≡ true)
scalars-parts [] ys h = (refl, h)
scalars-parts (x ∷ xs) ys h =
    let p = and_parts (scalar x) (scalars (xs ++ ys)) h in
    let more = scalars-parts xs ys p.1 in
    (and_from (scalar x) (scalars xs) p.0 more.0, more.1)

first_scalar : (x : ℕ) (xs : List ℕ) → scalars (x ∷ xs) ≡ true → scalar x ≡ true
first_scalar x xs h = (and_parts (scalar x) (scalars xs) h).0

text_utf8 : (cs : List ℕ) → scalars cs ≡ true → is_utf8 (encode_utf8_all cs) ≡ true
text_utf8 cs h = is_utf8-from_IsUtf8 (encode_utf8_all cs) (cs, (h, refl))

scalar_along : (x c : ℕ) → scalar x ≡ true → x ≡ c → scalar c ≡ true
scalar_along x c h e = ap scalar (sym e) ∙ h

short_scalar : (l c : ℕ) → scalar l ≡ true → short_escape l ≡ Some c → scalar c ≡ true
unfolding short_escape
short_scalar l c h e =
    elim (cases_Bool (eqb l 116)) [
      | inl tab ↦ scalar_along 9 c refl (some_is 9 c (rw tab at e))
      | inr a ↦ elim (cases_Bool (eqb l 98)) [
        | inl back ↦ scalar_along 8 c refl (some_is 8 c (rw (a, back) at e))
        | inr b ↦ elim (cases_Bool (eqb l 110)) [
          | inl feed ↦ scalar_along 10 c refl (some_is 10 c (rw (a, b, feed) at e))
          | inr d ↦ elim (cases_Bool (eqb l 114)) [
            | inl turn ↦ scalar_along 13 c refl (some_is 13 c (rw (a, b, d, turn) at e))
            | inr f ↦ elim (cases_Bool (eqb l 102)) [
              | inl form ↦ scalar_along 12 c refl (some_is 12 c (rw (a, b, d, f, form) at e))
              | inr g ↦ elim (cases_Bool ((eqb l 34 || eqb l 39) || eqb l 92)) [
                | inl same ↦ scalar_along l c h (some_is l c (rw (a, b, d, f, g, same) at e))
                | inr none ↦ none_is c (rw (a, b, d, f, g, none) at e)
              ]
            ]
          ]
        ]
      ]
    ]

iri_scalars : (vs body : List ℕ) → scalars body ≡ true → Writes IsIriCharacter body vs → scalars vs ≡ true
iri_scalars [] body h w = refl
iri_scalars (v ∷ vs) body h w =
    let p = scalars-parts w.0 w.1 (ap scalars (sym w.2) ∙ h) in
    let here : scalar v ≡ true = elim w.3.1 [ inl plain ↦ first_scalar v [] (ap scalars (sym plain) ∙ p.0) | inr escape ↦ escape.scalar ] in
    and_from (scalar v) (scalars vs) here (iri_scalars vs w.1 p.1 w.4)

string_scalar : (q : ℕ) (unit : List ℕ) (c : ℕ) → scalars unit ≡ true → IsStringCharacter q unit c → scalar c ≡ true
string_scalar q unit c h (inl plain) = first_scalar c [] (ap scalars (sym plain.0) ∙ h)
string_scalar q unit c h (inr (inl escape)) = escape.scalar
string_scalar q unit c h (inr (inr short)) =
    let both : scalars (92 ∷ short.0 ∷ []) ≡ true = ap scalars (sym short.1) ∙ h in
    short_scalar short.0 c (first_scalar short.0 [] (and_parts (scalar 92) (scalars (short.0 ∷ [])) both).1) short.2

string_scalars : (q : ℕ) (vs body : List ℕ) → scalars body ≡ true → Writes (IsStringCharacter q) body vs → scalars vs ≡ true
string_scalars q [] body h w = refl
string_scalars q (v ∷ vs) body h w =
    let p = scalars-parts w.0 w.1 (ap scalars (sym w.2) ∙ h) in
    and_from (scalar v) (scalars vs) (string_scalar q w.0 v p.0 w.3) (string_scalars q vs w.1 p.1 w.4)

-- ---- parts

-- A part of characters says a sound text.
abbrev Sound : (List ℕ → List ℕ → Type 0) → (List ℕ → Type 0) → Type 0
Sound Form Good = (slice text : List ℕ) → scalars slice ≡ true → Form slice text → Good text

abbrev IsText : List ℕ → Type 0
IsText text = is_utf8 text ≡ true

abbrev IsReference : List ℕ → Type 0
IsReference text = IsText text × (has_forbidden text ≡ false)

iri_sound : Sound IsIriRef IsReference
iri_sound slice text h f =
    let tail = (and_parts (scalar 60) (scalars (f.0 ++ 62 ∷ [])) (ap scalars (sym f.2) ∙ h)).1 in
    let body = (scalars-parts f.0 (62 ∷ []) tail).0 in
    (ap is_utf8 f.4 ∙ text_utf8 f.1 (iri_scalars f.1 f.0 body f.3), ap has_forbidden f.4 ∙ written_allowed f.1 f.0 f.3)

string_sound : Sound IsString IsText
string_sound slice text h f =
    let tail = (and_parts (scalar 34) (scalars (f.0 ++ 34 ∷ [])) (ap scalars (sym f.2) ∙ h)).1 in
    let body = (scalars-parts f.0 (34 ∷ []) tail).0 in
    ap is_utf8 f.4 ∙ text_utf8 f.1 (string_scalars 34 f.1 f.0 body f.3)

marked_sound : (mark : List ℕ) (IsName : List ℕ → Type 0) → Sound (IsMarked mark IsName) IsText
marked_sound mark IsName slice text h f =
    let name = (scalars-parts mark f.0 (ap scalars (sym f.1) ∙ h)).1 in
    ap is_utf8 f.3 ∙ text_utf8 f.0 name

-- the part's text is sound, and so are the characters that follow it
next_sound : {Form : List ℕ → List ℕ → Type 0} {Good : List ℕ → Type 0} (line text rest : List ℕ) → Sound Form Good → scalars line ≡ true → Next Form line text rest
    → Good text × (scalars rest ≡ true)
next_sound line text rest sound h n =
    let start = (scalars-parts n.1.0 n.0 (ap scalars (sym n.1.2) ∙ h)).1 in
    let parts = scalars-parts n.2.slice rest (ap scalars (sym n.2.parts) ∙ start) in
    (sound n.2.slice text parts.0 n.2.form, parts.1)

gap_scalars : (line rest : List ℕ) → scalars line ≡ true → Gap line rest → scalars rest ≡ true
gap_scalars line rest h g = (scalars-parts g.0 rest (ap scalars (sym g.2) ∙ h)).1

iri_from : (text : List ℕ) → IsReference text → has_scheme text ≡ true → is_iri text ≡ true
iri_from text r scheme =
    and_from (is_utf8 text) (has_scheme text && not (has_forbidden text)) r.0
    (and_from (has_scheme text) (not (has_forbidden text)) scheme (ap not r.1))

-- ---- terms

node_is_sound : (line : List ℕ) (v : Node) (rest : List ℕ) → scalars line ≡ true → HasNode line v rest → IsAbsoluteNode v → IsSoundNode v × (scalars rest ≡ true)
node_is_sound line (node.Label text) rest h n a = next_sound line text rest (marked_sound (95 ∷ 58 ∷ []) _) h n
node_is_sound line (node.Iri text) rest h n a = let s = next_sound line text rest iri_sound h n in (iri_from text s.0 a, s.1)

abbrev is_low : ℕ → Bool
is_low c = ltb c 128

all_low : (cs : List ℕ) → list_all is_low cs ≡ true → AllLow cs
all_low [] h = tt
all_low (c ∷ cs) h = let p = and_parts (is_low c) (list_all is_low cs) h in (ltb-true c 128 p.0, all_low cs p.1)

low_scalar : (cs : List ℕ) → AllLow cs → scalars cs ≡ true
low_scalar [] h = refl
low_scalar (c ∷ cs) h = and_from (scalar c) (scalars cs) (small c h.0) (low_scalar cs h.1)
  where
    small : (n : ℕ) → n < 128 → scalar n ≡ true
    small n lt = rw (lt-ltb n 55296 (omega (arith, lt))) refl

low_utf8 : (cs : List ℕ) → list_all is_low cs ≡ true → is_utf8 cs ≡ true
low_utf8 cs h = let low = all_low cs h in ap is_utf8 (sym (encodes_low cs low)) ∙ text_utf8 cs (low_scalar cs low)

xsd_is_iri : is_iri xsd_string ≡ true
xsd_is_iri = iri_from xsd_string (low_utf8 xsd_string refl, refl) refl

lang_is_iri : is_iri lang_string ≡ true
lang_is_iri = iri_from lang_string (low_utf8 lang_string refl, refl) refl

typed_is_literal : (lexical datatype : List ℕ) → is_utf8 lexical ≡ true → is_iri datatype ≡ true → is_literal (typed lexical datatype) ≡ true
typed_is_literal lexical datatype text iri =
    and_from (is_utf8 lexical) (is_iri datatype && true) text (and_from (is_iri datatype) true iri refl)

literal_is_sound : (line : List ℕ) (l : LiteralParts) (rest : List ℕ) → scalars line ≡ true → HasLiteral line l rest → has_scheme l.datatype ≡ true → (is_literal l ≡ true) × (scalars rest ≡ true)
literal_is_sound line l rest h (inl p) a =
    let s = next_sound line p.0 rest string_sound h p.1 in
    (ap is_literal p.2 ∙ typed_is_literal p.0 xsd_string s.0 xsd_is_iri, s.1)
literal_is_sound line l rest h (inr (inl p)) a =
    let s = next_sound line p.0 p.2 string_sound h p.3 in
    let t = next_sound p.2 p.1 rest (marked_sound (64 ∷ []) _) s.1 p.4 in
    let form : is_tag p.1 ≡ true = ap is_tag p.4.2.form.3 ∙ tag_form p.4.2.form.0 p.4.2.form.2 in
    (ap is_literal p.5 ∙ is_literal-tagged p.0 lang_string p.1 (str_to_ascii_lowercase p.1) s.0 lang_is_iri refl form refl, t.1)
literal_is_sound line l rest h (inr (inr p)) a =
    let s = next_sound line p.0 p.2 string_sound h p.5 in
    let marks = gap_scalars p.2 p.3 s.1 p.6 in
    let more = (scalars-parts (94 ∷ 94 ∷ []) p.4 (ap scalars (sym p.7) ∙ marks)).1 in
    let d = next_sound p.4 p.1 rest iri_sound more p.8 in
    let scheme : has_scheme p.1 ≡ true = ap (λ (x : LiteralParts). has_scheme x.datatype) (sym p.9) ∙ a in
    (ap is_literal p.9 ∙ typed_is_literal p.0 p.1 s.0 (iri_from p.1 d.0 scheme), d.1)

object_is_sound : (line : List ℕ) (v : Object) (rest : List ℕ) → scalars line ≡ true → HasObject line v rest → IsAbsoluteObject v → IsSoundObject v × (scalars rest ≡ true)
object_is_sound line (object.Node place) rest h n a = node_is_sound line place rest h n a
object_is_sound line (object.Literal literal) rest h n a = literal_is_sound line literal rest h n a

graph_is_sound : (format : LineFormat) (line : List ℕ) (g : Option Node) (rest : List ℕ) → scalars line ≡ true → HasGraph format line g rest → IsAbsoluteGraph g → IsSoundGraph g
graph_is_sound format line None rest h n a = tt
graph_is_sound NTriples line (Some v) rest h n a = absurd n
graph_is_sound NQuads line (Some v) rest h n a = (node_is_sound line v rest h n a).0

pub statements_are_sound : StatementsAreSound
statements_are_sound format line s says =
    let start = scalars-chars line says.0 in
    let read = says.1 in
    let absolute = says.2 in
    let subject = node_is_sound (chars line) s.subject read.after_subject start read.subject absolute.0 in
    let predicate = next_sound read.after_subject s.predicate read.after_predicate iri_sound subject.1 read.predicate in
    let place = object_is_sound read.after_predicate s.object read.after_object predicate.1 read.object absolute.2 in
    (subject.0, iri_from s.predicate predicate.0 absolute.1, place.0, graph_is_sound format read.after_object s.graph read.after_graph place.1 read.graph absolute.3)
