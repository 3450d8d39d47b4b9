-- The characters of an IRI, as they are written.
use Rattle.std.proofs.Common.{◌≡◌, ◌∙◌, ap, refl, sym, inl, inr, ℕ, arith, true, false, List, [], ◌∷◌, ◌++◌, chars, IsUtf8}
use Rattle.std.specs.Char.{encode_utf8}
use Rattle.std.specs.Str.{encode_utf8_all, NonePass}
use Rattle.std.proofs.lemmas.Bool.{cases_Bool, or_parts, and_parts, not-true}
use Rattle.std.proofs.lemmas.List.Folds.{list_any-append}
use Rattle.std.proofs.lemmas.Str.{encode_ascii, encodes-chars, IsUtf8-from_is_utf8}
use Rattle.rdf_terms.specs.Escapes.{Writes}
use Rattle.rdf_terms.specs.Iri.{is_forbidden, has_forbidden, has_scheme, is_iri}
use Rattle.rdf_terms.specs.Quoted.{IsIriCharacter, IsIriRef}
use Rattle.rdf_terms.proofs.AllowedLemmas.{forbidden_low}
use Rattle.rdf_terms.proofs.AsciiLemmas.{around_utf8, around_chars}

-- where no byte of a character is forbidden, it isn't forbidden itself
character_allowed : (c : ℕ) → has_forbidden (encode_utf8 c) ≡ false → is_forbidden c ≡ false
character_allowed c none =
    elim (cases_Bool (is_forbidden c)) [
      | inr good ↦ good
      | inl bad ↦ (or_parts (is_forbidden c) false (ap has_forbidden (sym (encode_ascii c (forbidden_low c bad))) ∙ none)).0
    ]

pub all_allowed : (cs : List ℕ) → has_forbidden (encode_utf8_all cs) ≡ false → NonePass is_forbidden cs
all_allowed [] none = tt
all_allowed (c ∷ cs) none =
    let parts = or_parts (has_forbidden (encode_utf8 c)) (has_forbidden (encode_utf8_all cs)) (sym (list_any-append is_forbidden (encode_utf8 c) (encode_utf8_all cs)) ∙ none) in
    (character_allowed c parts.0, all_allowed cs parts.1)

pub writes_allowed : (cs : List ℕ) → NonePass is_forbidden cs → Writes IsIriCharacter cs cs
writes_allowed [] none = refl
writes_allowed (c ∷ cs) none = (c ∷ [], cs, refl, (none.0, inl refl), writes_allowed cs none.1)

-- ---- the parts of an IRI's test

pub iri_utf8 : (iri : List ℕ) → is_iri iri ≡ true → IsUtf8 iri
iri_utf8 iri h = IsUtf8-from_is_utf8 iri (and_parts _ _ h).0

pub iri_scheme : (iri : List ℕ) → is_iri iri ≡ true → has_scheme iri ≡ true
iri_scheme iri h = (and_parts _ _ (and_parts _ _ h).1).0

pub iri_allowed : (iri : List ℕ) → is_iri iri ≡ true → has_forbidden iri ≡ false
iri_allowed iri h = not-true (has_forbidden iri) (and_parts _ _ (and_parts _ _ h).1).1

-- ---- between angle brackets

abbrev pub angled : List ℕ → List ℕ
angled iri = 60 ∷ (iri ++ 62 ∷ [])

pub iri_form : (iri : List ℕ) → is_iri iri ≡ true → IsIriRef (angled (chars iri)) iri
iri_form iri h =
    let same : encode_utf8_all (chars iri) ≡ iri = encodes-chars iri (iri_utf8 iri h) in
    (chars iri, chars iri, refl, writes_allowed (chars iri) (all_allowed (chars iri) (ap has_forbidden same ∙ iri_allowed iri h)), sym same)

pub angled_chars : (iri : List ℕ) → is_iri iri ≡ true → chars (angled iri) ≡ angled (chars iri)
angled_chars iri h = around_chars 60 62 iri (omega arith) (omega arith) (iri_utf8 iri h)

pub angled_utf8 : (iri : List ℕ) → is_iri iri ≡ true → IsUtf8 (angled iri)
angled_utf8 iri h = around_utf8 60 62 iri (omega arith) (omega arith) (iri_utf8 iri h)
