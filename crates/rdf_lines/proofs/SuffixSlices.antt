-- What follows a string, where canonical form writes it so.
use Rattle.std.proofs.Common.{◌≡◌, ◌∙◌, ap, refl, sym, subst, inl, inr, ℕ, arith, Bool, true, false, cond, List, [], ◌∷◌, ◌++◌, append_assoc, true≢false, ◌||◌, codes, Option, Some, None, nat_eq}
use Rattle.std.specs.List.{flat_map, list_any}
use Rattle.std.specs.Char.{is_ascii_uppercase}
use Rattle.std.specs.Cmp.Lexicographic.{pointwise, bytes_decides}
use Rattle.std.specs.Str.{encode_utf8_all, str_to_ascii_lowercase}
use Rattle.std.proofs.lemmas.Bool.{cases_Bool, or_parts}
use Rattle.std.proofs.lemmas.Cmp.{nat_list_eq_equiv}
use Rattle.std.proofs.lemmas.Str.{encode_ascii}
use Rattle.rdf_terms.specs.Literal.{LiteralParts, lang_string, xsd_string, is_tag, tagged}
use Rattle.rdf_terms.specs.Reading.{◌>>=◌, LeadsTo, between, expect, iri_at, quoted_at}
use Rattle.rdf_terms.specs.Skips.{skip}
use Rattle.rdf_terms.specs.Tags.{tag_end_at}
use Rattle.rdf_terms.specs.TermText.{escaped, suffix_text, literal_text}
use Rattle.rdf_terms.proofs.CallerLemmas.{between_is, bind_some, expect_sound, lower_stays, tag_form, tag_greedy}
use Rattle.rdf_lines.specs.Grammar.{typed}
use Rattle.rdf_lines.specs.Inside.Slices.{ReadsIri, ReadsLiteral, ReadsSuffix}
use Rattle.rdf_lines.specs.Reading.{first_is, skip_white, name_at, tag_at, tagged_literal, tagged_at, typed_at, suffix_at, literal_at}
use Rattle.rdf_lines.specs.Written.{absolute_iri, absolute_object}
use Rattle.rdf_lines.specs.declared.statement.Object.TheVariants as object
use Rattle.rdf_lines.specs.declared.written.WrittenObject.{WrittenObject}
use Rattle.rdf_lines.specs.declared.written.WrittenObject.TheVariants as written_object
use Rattle.rdf_lines.proofs.CanonicalLemmas.{string_reads, string_text}

-- ---- a tag without capitals

at_sign_stays : (cs : List ℕ) → skip_white (64 ∷ cs) ≡ 64 ∷ cs
unfolding skip
at_sign_stays cs = refl

reads_tag : (lexical cs rest : List ℕ) → tag_end_at cs ≡ Some rest → is_tag (encode_utf8_all (between cs rest)) ≡ true
    → suffix_at lexical (64 ∷ cs) (64 ∷ cs) ≡ Some (written_object.Literal (tagged lexical (encode_utf8_all (between cs rest))), rest)
unfolding suffix_at first_is tagged_at tag_at name_at tagged_literal expect
reads_tag lexical cs rest e form = rw (e, form) refl

pub tag_suffix : (cs rest : List ℕ) → tag_end_at cs ≡ Some rest → list_any is_ascii_uppercase (encode_utf8_all (between cs rest)) ≡ false → ReadsSuffix (64 ∷ cs) rest
tag_suffix cs rest e low =
    let s = tag_greedy.sound cs rest e in
    let is : between cs rest ≡ s.0 = between_is cs rest s.0 s.1 in
    let tag = encode_utf8_all (between cs rest) in
    let form : is_tag tag ≡ true = ap (λ (t : List ℕ). is_tag (encode_utf8_all t)) is ∙ tag_form s.0 s.2 in
    let text : encode_utf8_all (64 ∷ s.0) ≡ 64 ∷ tag = ap (λ (t : List ℕ). t ++ encode_utf8_all s.0) (encode_ascii 64 (omega arith)) ∙ ap (λ (t : List ℕ). 64 ∷ encode_utf8_all t) (sym is) in (
      lang_string,
      Some tag,
      64 ∷ s.0,
      ap (λ (t : List ℕ). 64 ∷ t) s.1,
      text,
      λ lexical. (
        written_object.Literal (tagged lexical tag),
        ap (suffix_at lexical (64 ∷ cs)) (at_sign_stays cs) ∙ reads_tag lexical cs rest e form,
        ap (λ (t : List ℕ). Some (object.Literal (record { lexical = lexical; datatype = lang_string; tag = Some t }))) (lower_stays tag low),
      ),
    )

-- ---- a datatype

-- the datatype of strings alone, in its angle brackets
abbrev angled : List ℕ
angled = codes "<http://www.w3.org/2001/XMLSchema#string>"

angle_stays : (c : ℕ) (cs : List ℕ) → c ≡ 60 → skip_white (c ∷ cs) ≡ c ∷ cs
unfolding skip
angle_stays c cs e = subst (λ (d : ℕ). skip_white (d ∷ cs) ≡ d ∷ cs) (sym e) refl

pub iri_stays : (cs iri rest : List ℕ) → iri_at cs ≡ Some (iri, rest) → skip_white cs ≡ cs
unfolding iri_at
iri_stays cs iri rest e =
    let b = bind_some (expect 60 cs) _ (iri, rest) e in
    let is = expect_sound 60 cs b.0 b.1 in
    ap skip_white is ∙ angle_stays 60 b.0 refl ∙ sym is

mark_stays : (cs : List ℕ) → skip_white (94 ∷ cs) ≡ 94 ∷ cs
unfolding skip
mark_stays cs = refl

expect_own : (cs : List ℕ) → expect 94 (94 ∷ cs) ≡ Some cs
unfolding expect
expect_own cs = refl

reads_type : (lexical cs both iri rest : List ℕ) → expect 94 cs ≡ Some both → iri_at (skip_white both) ≡ Some (iri, rest)
    → suffix_at lexical (94 ∷ cs) (94 ∷ cs) ≡ Some (written_object.Typed lexical iri, rest)
unfolding suffix_at first_is typed_at
reads_type lexical cs both iri rest second e = rw (expect_own cs, second, e) refl

pub type_suffix : (cs both text rest : List ℕ) → expect 94 cs ≡ Some both → ReadsIri both text rest → pointwise nat_eq text (codes "<http://www.w3.org/2001/XMLSchema#string>") ≡ false → ReadsSuffix (94 ∷ cs) rest
type_suffix cs both text rest second (iri, over, e, absolute, is, parts, bytes) other =
    let own : pointwise nat_eq iri xsd_string ≡ false = not_string iri text is other in (
      iri,
      None,
      94 ∷ 94 ∷ over,
      ap (λ (t : List ℕ). 94 ∷ t) (expect_sound 94 cs both second ∙ ap (λ (t : List ℕ). 94 ∷ t) parts),
      ap (λ (t : List ℕ). t ++ encode_utf8_all (94 ∷ over)) (encode_ascii 94 (omega arith)) ∙ ap (λ (t : List ℕ). 94 ∷ (t ++ encode_utf8_all over)) (encode_ascii 94 (omega arith))
          ∙ ap (λ (t : List ℕ). 94 ∷ 94 ∷ t) (sym bytes ∙ is) ∙ sym (ap (λ (b : Bool). cond b [] (94 ∷ 94 ∷ 60 ∷ (iri ++ 62 ∷ []))) own),
      λ lexical. (
        written_object.Typed lexical iri,
        ap (suffix_at lexical (94 ∷ cs)) (mark_stays cs) ∙ reads_type lexical cs both iri rest second (ap iri_at (iri_stays both iri rest e) ∙ e),
        ap (λ (o : Option (List ℕ)). o >>= (λ named. Some (object.Literal (typed lexical named)))) absolute,
      ),
    )
  where
    not_string : (iri text : List ℕ) → text ≡ 60 ∷ (iri ++ 62 ∷ []) → pointwise nat_eq text (codes "<http://www.w3.org/2001/XMLSchema#string>") ≡ false → pointwise nat_eq iri xsd_string ≡ false
    not_string iri text is other = elim (cases_Bool (pointwise nat_eq iri xsd_string)) [
      | inl same ↦ absurd (true≢false (sym (nat_list_eq_equiv.refl angled) ∙ sym (ap (λ (t : List ℕ). pointwise nat_eq t angled) (is ∙ ap (λ (t : List ℕ). 60 ∷ (t ++ 62 ∷ [])) ((bytes_decides iri xsd_string).0 same))) ∙ other))
      | inr not ↦ not
    ]

-- ---- neither

reads_none : (lexical cs suffix : List ℕ) → first_is 64 suffix ≡ false → first_is 94 suffix ≡ false
    → suffix_at lexical cs suffix ≡ Some (written_object.Literal (typed lexical xsd_string), cs)
unfolding suffix_at
reads_none lexical cs suffix tag type = rw (tag, type) refl

string_alone : suffix_text xsd_string None ≡ []
string_alone = refl

pub no_suffix : (cs suffix : List ℕ) → suffix ≡ skip_white cs → (first_is 64 suffix || first_is 94 suffix) ≡ false → ReadsSuffix cs cs
no_suffix cs suffix is none =
    let parts = or_parts (first_is 64 suffix) (first_is 94 suffix) none in
    (xsd_string, None, [], refl, sym string_alone, λ lexical. (written_object.Literal (typed lexical xsd_string), ap (suffix_at lexical cs) (sym is) ∙ reads_none lexical cs suffix parts.0 parts.1, refl))

-- ---- a literal

reads_literal : (at lexical string rest : List ℕ) (written : WrittenObject) → quoted_at 34 at ≡ Some (lexical, string) → suffix_at lexical string (skip_white string) ≡ Some (written, rest)
    → literal_at at ≡ Some (written, rest)
unfolding literal_at
reads_literal at lexical string rest written e h = ap (λ read. read >>= (λ text. suffix_at text.0 text.1 (skip_white text.1))) e ∙ h

literal_parts : (at cs string rest over : List ℕ) → at ≡ 34 ∷ (flat_map escaped cs ++ 34 ∷ string) → string ≡ over ++ rest → at ≡ (34 ∷ (flat_map escaped cs ++ 34 ∷ over)) ++ rest
literal_parts at cs string rest over e is =
    e ∙ ap (λ (t : List ℕ). 34 ∷ t) (ap (λ (t : List ℕ). flat_map escaped cs ++ 34 ∷ t) is ∙ sym (append_assoc (flat_map escaped cs) (34 ∷ over) rest))

pub literal_leads : (at cs string rest : List ℕ) → at ≡ 34 ∷ (flat_map escaped cs ++ 34 ∷ string) → ReadsSuffix string rest → LeadsTo at rest
literal_leads at cs string rest e suffix = (34 ∷ (flat_map escaped cs ++ 34 ∷ suffix.2), literal_parts at cs string rest suffix.2 e suffix.3)

literal_is : (lexical datatype : List ℕ) (tag : Option (List ℕ)) → literal_text (record { lexical = lexical; datatype = datatype; tag = tag }) ≡ 34 ∷ (flat_map escaped lexical ++ 34 ∷ suffix_text datatype tag)
literal_is lexical datatype tag = append_assoc (34 ∷ flat_map escaped lexical) (codes "\"") (suffix_text datatype tag)

pub literal_reads : (at cs string text rest : List ℕ) → at ≡ 34 ∷ (flat_map escaped cs ++ 34 ∷ string) → ReadsSuffix string rest → text ≡ encode_utf8_all (between at rest) → ReadsLiteral at text rest
literal_reads at cs string text rest e suffix is =
    let lexical = encode_utf8_all cs in
    let l = suffix.5 lexical in
    let over = between_is at rest (34 ∷ (flat_map escaped cs ++ 34 ∷ suffix.2)) (literal_parts at cs string rest suffix.2 e suffix.3) in (
      l.0,
      record { lexical = lexical; datatype = suffix.0; tag = suffix.1 },
      reads_literal at lexical string rest l.0 (string_reads at cs string e) l.1,
      l.2,
      is ∙ ap encode_utf8_all over ∙ string_text cs suffix.2 ∙ ap (λ (t : List ℕ). 34 ∷ (flat_map escaped lexical ++ 34 ∷ t)) suffix.4 ∙ sym (literal_is lexical suffix.0 suffix.1),
    )
