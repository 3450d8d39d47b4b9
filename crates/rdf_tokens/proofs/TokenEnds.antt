-- IRIs and short strings, by their ends: what is read has the form, and each is read.
use Rattle.std.proofs.Common.{◌≡◌, ◌≢◌, ℕ, ◌<◌, List, [], ◌∷◌, ◌++◌, length, length-append, Option, Some, None, refl, ap, ◌∙◌, arith}
use Rattle.std.specs.Prelude.{option_map}
use Rattle.std.specs.Str.{encode_utf8_all}
use Rattle.rdf_terms.specs.Reading.{iri_at, quoted_at}
use Rattle.rdf_terms.specs.Quoted.{IsIriRef}
use Rattle.rdf_terms.proofs.CallerLemmas.{some_is, none_is, iri_sound, iri_complete, quoted_sound, quoted_complete}
use Rattle.rdf_tokens.specs.declared.token.Kind.TheVariants as kind
use Rattle.rdf_tokens.specs.Forms.{IsShort}
use Rattle.rdf_tokens.specs.Inside.TokenReading.{iri_end_at, quoted_end_at}
use Rattle.rdf_tokens.proofs.TokenClaims.{Sound}

end_some : (o : Option (List ℕ × List ℕ)) (rest : List ℕ) → option_map (λ read. read.1) o ≡ Some rest → (text : List ℕ) × (o ≡ Some (text, rest))
end_some None rest e = none_is rest e
end_some (Some p) rest e = (p.0, ap (λ (r : List ℕ). Some (p.0, r)) (some_is p.1 rest e))

end_of : (o : Option (List ℕ × List ℕ)) (text rest : List ℕ) → o ≡ Some (text, rest) → option_map (λ read. read.1) o ≡ Some rest
end_of o text rest e = ap (λ (x : Option (List ℕ × List ℕ)). option_map (λ (unit : List ℕ × List ℕ). unit.1) x) e

pub iri_end_sound : (cs rest : List ℕ) → iri_end_at cs ≡ Some rest → Sound kind.Iri cs rest
iri_end_sound cs rest e =
    let b = end_some (iri_at cs) rest e in
    let s = iri_sound cs b.0 rest b.1 in
    (s.0, s.1, (b.0, s.2))

pub iri_end_read : (slice text rest : List ℕ) → IsIriRef slice text → iri_end_at (slice ++ rest) ≡ Some rest
iri_end_read slice text rest h = end_of (iri_at (slice ++ rest)) text rest (iri_complete slice text rest h)

-- an IRI takes more than `<`, and more than `<=`
pub iri_less : (cs rest : List ℕ) → iri_end_at (60 ∷ cs) ≡ Some rest → length rest < length cs
iri_less cs rest e =
    let s = iri_end_sound (60 ∷ cs) rest e in
    let r = s.2.1 in
    omega (arith, ap length s.1, ap length r.2, length-append s.0 rest, length-append r.0 (62 ∷ []))

pub iri_less_two : (c : ℕ) (cs rest : List ℕ) → c ≢ 62 → iri_end_at (60 ∷ c ∷ cs) ≡ Some rest → length rest < length cs
iri_less_two c cs rest ne e =
    let s = iri_end_sound (60 ∷ c ∷ cs) rest e in
    let r = s.2.1 in
    by_body r.0 (s.1 ∙ ap (λ (t : List ℕ). t ++ rest) r.2)
  where
    second : (a b : ℕ) (xs ys : List ℕ) → (60 ∷ a ∷ xs) ≡ (60 ∷ b ∷ ys) → a ≡ b
    second a b xs ys e = cc

    by_body : (body : List ℕ) → 60 ∷ c ∷ cs ≡ (60 ∷ (body ++ 62 ∷ [])) ++ rest → length rest < length cs
    by_body [] e = absurd (ne (second c 62 cs rest e))
    by_body (b ∷ body) e = omega (arith, ap length e, length-append (body ++ 62 ∷ []) rest, length-append body (62 ∷ []))

pub quoted_end_sound : (q : ℕ) (cs rest : List ℕ) → 92 ≢ q → quoted_end_at q cs ≡ Some rest → (slice vs : List ℕ) × (cs ≡ slice ++ rest) × IsShort q slice vs
quoted_end_sound q cs rest nq e =
    let b = end_some (quoted_at q cs) rest e in
    let s = quoted_sound q nq cs b.0 rest b.1 in
    (s.0, s.2.1, s.1, (s.2.0, s.2.2, s.2.3))

pub quoted_end_read : (q : ℕ) (slice vs rest : List ℕ) → 92 ≢ q → IsShort q slice vs → quoted_end_at q (slice ++ rest) ≡ Some rest
quoted_end_read q slice vs rest nq h =
    end_of (quoted_at q (slice ++ rest)) (encode_utf8_all vs) rest (quoted_complete q nq slice (encode_utf8_all vs) rest (h.0, vs, h.1, h.2, refl))
