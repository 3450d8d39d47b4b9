-- The values of IRIs.
use Rattle.std.proofs.Common.{◌≡◌, ℕ, false, List, [], ◌∷◌, ◌++◌, Option, Some, None, refl, sym, ap, ◌∙◌}
use Rattle.std.proofs.lemmas.List.{append-nil}
use Rattle.std.proofs.lemmas.Str.{encodes-chars}
use Rattle.std.specs.Str.{chars, encode_utf8_all, IsUtf8}
use Rattle.rdf_terms.specs.Iri.{has_forbidden}
use Rattle.rdf_terms.specs.Quoted.{IsIriRef}
use Rattle.rdf_terms.specs.Reading.{expect, iri_at}
use Rattle.rdf_terms.proofs.CallerLemmas.{read_iri_allowed, bind_some, iri_complete, expect_sound, all_allowed, writes_allowed}
use Rattle.rdf_tokens.specs.Values.{iri_value, enclosed, before_end}
use Rattle.rdf_tokens.proofs.ValuePlaces.{before_end_sound}

pub iri_value_by : (slice text rest : List ℕ) → iri_at slice ≡ Some (text, rest) → iri_value slice ≡ text
unfolding iri_value
iri_value_by slice text rest e = rw e refl

pub no_iri : (slice : List ℕ) → iri_at slice ≡ None → iri_value slice ≡ []
unfolding iri_value
no_iri slice e = rw e refl

pub iri_value_is : (slice text : List ℕ) → IsIriRef slice text → text ≡ iri_value slice
iri_value_is slice text h = sym (iri_value_by slice text [] (ap iri_at (sym (append-nil slice)) ∙ iri_complete slice text [] h))

allowed_by : (slice : List ℕ) (o : Option (List ℕ × List ℕ)) → iri_at slice ≡ o → has_forbidden (iri_value slice) ≡ false
allowed_by slice None e = ap has_forbidden (no_iri slice e)
allowed_by slice (Some r) e = ap has_forbidden (iri_value_by slice r.0 r.1 e) ∙ read_iri_allowed slice r.0 r.1 e

pub iri_value_allowed : (slice : List ℕ) → has_forbidden (iri_value slice) ≡ false
iri_value_allowed slice = allowed_by slice (iri_at slice) refl

-- ---- a reference with no escape

pub enclosed_sound : (first last : ℕ) (cs body : List ℕ) → enclosed first last cs ≡ Some body → cs ≡ first ∷ (body ++ last ∷ [])
unfolding enclosed
enclosed_sound first last cs body e =
    let b = bind_some (expect first cs) (before_end last) body e in
    expect_sound first cs b.0 b.1 ∙ ap (λ (t : List ℕ). first ∷ t) (before_end_sound last b.0 body b.2)

pub plain_is : (text reference : List ℕ) → IsUtf8 reference → enclosed 60 62 (chars text) ≡ Some (chars reference) → has_forbidden reference ≡ false → reference ≡ iri_value (chars text)
plain_is text reference u e none =
    let allowed = all_allowed (chars reference) (ap has_forbidden (encodes-chars reference u) ∙ none) in
    sym (encodes-chars reference u)
    ∙ iri_value_is (chars text) (encode_utf8_all (chars reference))
    (chars reference, chars reference, enclosed_sound 60 62 (chars text) (chars reference) e, writes_allowed (chars reference) allowed, refl)
