-- What the code computes is what the reference means, and nothing else is.
use Rattle.std.proofs.Common.{◌≡◌, ℕ, true, false, List, [], ◌∷◌, ◌++◌, Option, Some, None, refl, sym, ap, ◌∙◌, inl, inr, IsSomeAnd, unwrap_or, append_assoc}
use Rattle.std.proofs.lemmas.Bool.{cases_Bool}
use Rattle.rdf_terms.specs.Cuts.{before, after}
use Rattle.rdf_terms.specs.Iri.{has_scheme}
use Rattle.rdf_terms.specs.Rewriting.{components_of, resolved}
use Rattle.rdf_terms.specs.Reference.{Components, recomposed}
use Rattle.rdf_terms.specs.Resolution.{target, ResolvesTo, Means}
use Rattle.rdf_terms.proofs.CutLemmas.{before_lacks_mark}
use Rattle.rdf_terms.proofs.ReferenceLemmas.{components_there, components_unique, base_unique}
use Rattle.rdf_terms.proofs.CleanLemmas.{scheme_split}

pub resolves : (base reference : List ℕ) → has_scheme base ≡ true → ResolvesTo base reference (resolved base reference)
unfolding resolved
resolves base reference h =
    let sp = scheme_split base h in
    (before 58 base, components_of sp.0, components_of reference, (sp.0, sp.2, before_lacks_mark 58 base, components_there sp.0), components_there reference, rw sp.1 refl)

pub means_resolved : (base reference text : List ℕ) → has_scheme base ≡ true → has_scheme reference ≡ false → text ≡ resolved base reference → Means (Some base) reference text
means_resolved base reference text h relative e = rw (relative, e) (resolves base reference h)

pub means_from : (o : Option (List ℕ)) (base reference text : List ℕ) → o ≡ Some base → has_scheme reference ≡ false → ResolvesTo base reference text → Means o reference text
means_from o base reference text e relative h = rw (e, relative) h

pub means_itself : (base : Option (List ℕ)) (reference text : List ℕ) → has_scheme reference ≡ true → text ≡ reference → Means base reference text
means_itself base reference text absolute e = rw absolute e

resolves_once : (base reference s t : List ℕ) → ResolvesTo base reference s → ResolvesTo base reference t → s ≡ t
resolves_once base reference s t h g =
    let same = base_unique base h.0 g.0 h.1 g.1 h.3 g.3 in
    let refs : h.2 ≡ g.2 = components_unique reference h.2 g.2 h.4 g.4 in
    h.5 ∙ ap (λ (x : List ℕ). x ++ 58 ∷ recomposed (target h.1 h.2)) same.0 ∙ ap (λ (p : Components). g.0 ++ 58 ∷ recomposed (target p h.2)) same.1
    ∙ ap (λ (p : Components). g.0 ++ 58 ∷ recomposed (target g.1 p)) refs ∙ sym g.5

under_base : (base : Option (List ℕ)) (reference s t : List ℕ) → IsSomeAnd base (λ b. ResolvesTo b reference s) → IsSomeAnd base (λ b. ResolvesTo b reference t) → s ≡ t
under_base None reference s t h g = absurd h
under_base (Some b) reference s t h g = resolves_once b reference s t h g

pub means_once : (base : Option (List ℕ)) (reference s t : List ℕ) → Means base reference s → Means base reference t → s ≡ t
means_once base reference s t h g =
    elim (cases_Bool (has_scheme reference)) [
      | inl absolute ↦ (let hs : s ≡ reference = rw absolute at h in let gs : t ≡ reference = rw absolute at g in hs ∙ sym gs)
      | inr relative ↦ (let hs : IsSomeAnd base (λ b. ResolvesTo b reference s) = rw relative at h in let gs : IsSomeAnd base (λ b. ResolvesTo b reference t) = rw relative at g in under_base base reference s t hs gs)
    ]

pub means_there : (base reference : List ℕ) → has_scheme base ≡ true → (text : List ℕ) × Means (Some base) reference text
means_there base reference h =
    elim (cases_Bool (has_scheme reference)) [
      | inl absolute ↦ (reference, means_itself (Some base) reference reference absolute refl)
      | inr relative ↦ (resolved base reference, means_resolved base reference (resolved base reference) h relative refl)
    ]

-- the text is put together from its components
pub text_made : (base reference scheme rest : List ℕ) (b r t : Components) (t0 t1 t2 t3 : List ℕ) → scheme ≡ before 58 base → rest ≡ unwrap_or (after 58 base) [] → b ≡ components_of rest → r ≡ components_of reference → t ≡ target b r
    → t0 ≡ [] → t1 ≡ t0 ++ scheme → t2 ≡ t1 ++ 58 ∷ [] → t3 ≡ t2 ++ recomposed t → t3 ≡ resolved base reference
unfolding resolved
text_made base reference scheme rest b r t t0 t1 t2 t3 is_scheme is_rest is_b is_r is_t e0 e1 e2 e3 =
    let whole : t ≡ target (components_of (unwrap_or (after 58 base) [])) (components_of reference) =
    is_t ∙ ap (λ (p : Components). target p r) (is_b ∙ ap components_of is_rest) ∙ ap (target (components_of (unwrap_or (after 58 base) []))) is_r in
    let front : t2 ≡ before 58 base ++ 58 ∷ [] = e2 ∙ ap (λ (x : List ℕ). x ++ 58 ∷ []) (e1 ∙ ap (λ (x : List ℕ). x ++ scheme) e0 ∙ is_scheme) in
    e3 ∙ ap (λ (x : List ℕ). x ++ recomposed t) front ∙ append_assoc (before 58 base) (58 ∷ []) (recomposed t) ∙ ap (λ (p : Components). before 58 base ++ 58 ∷ recomposed p) whole
