-- What `resolve` gives is what the reference means, and nothing else is.
use Rattle.std.proofs.Common.{◌≡◌, ℕ, Bool, true, false, cond, List, [], ◌∷◌, ◌++◌, Option, Some, None, refl, sym, ap, ◌∙◌, inl, inr, IsSomeAnd, unwrap_or, IfSome}
use Rattle.std.proofs.lemmas.Bool.{cases_Bool}
use Rattle.std.proofs.lemmas.Option.{same_Some}
use Rattle.rdf_terms.specs.Cuts.{before, after}
use Rattle.rdf_terms.specs.Iri.{has_scheme, has_forbidden}
use Rattle.rdf_terms.specs.Rewriting.{components_of, resolved}
use Rattle.rdf_terms.specs.Reference.{Components, recomposed}
use Rattle.rdf_terms.specs.Resolution.{target, ResolvesTo, Means, LacksBase}
use Rattle.rdf_terms.proofs.CallerLemmas.{before_joined, after_joined, components_are, means_itself, means_resolved}
use Rattle.rdf_grammar.specs.References.{resolve, ReferencesAreResolved}

resolved_once : (base reference text : List ℕ) → ResolvesTo base reference text → text ≡ resolved base reference
unfolding resolved
resolved_once base reference text (scheme, b, r, (rest, is_base, lacks, has), has_r, e) =
    let front : before 58 base ≡ scheme = ap (before 58) is_base ∙ before_joined 58 scheme rest lacks in
    let back : after 58 base ≡ Some rest = ap (after 58) is_base ∙ after_joined 58 scheme rest lacks in
    let parts : components_of (unwrap_or (after 58 base) []) ≡ b = ap (λ (o : Option (List ℕ)). components_of (unwrap_or o [])) back ∙ components_are rest b has in
    e ∙ ap (λ (x : List ℕ). x ++ 58 ∷ recomposed (target b r)) (sym front) ∙ ap (λ (p : Components). before 58 base ++ 58 ∷ recomposed (target p r)) (sym parts)
    ∙ ap (λ (p : Components). before 58 base ++ 58 ∷ recomposed (target (components_of (unwrap_or (after 58 base) [])) p)) (sym (components_are reference r has_r))

relative_found : (base : Option (List ℕ)) (reference text : List ℕ) → IsSomeAnd base (λ b. ResolvesTo b reference text) → has_forbidden reference ≡ false → has_scheme reference ≡ false → resolve base reference ≡ Some text
unfolding resolve
relative_found None reference text h allowed relative = absurd h
relative_found (Some b) reference text h allowed relative = rw (allowed, relative) (ap (λ (x : List ℕ). Some x) (sym (resolved_once b reference text h)))

pub resolve_found : (base : Option (List ℕ)) (reference text : List ℕ) → Means base reference text → has_forbidden reference ≡ false → resolve base reference ≡ Some text
unfolding resolve
resolve_found base reference text h allowed =
    elim (cases_Bool (has_scheme reference)) [
      | inl absolute ↦ (let e : text ≡ reference = rw absolute at h in rw (allowed, absolute) (ap (λ (x : List ℕ). Some x) (sym e)))
      | inr relative ↦ (let m : IsSomeAnd base (λ b. ResolvesTo b reference text) = rw relative at h in relative_found base reference text m allowed relative)
    ]

pub resolve_forbidden : (base : Option (List ℕ)) (reference : List ℕ) → has_forbidden reference ≡ true → resolve base reference ≡ None
unfolding resolve
resolve_forbidden base reference h = rw h refl

pub resolve_lacking : (base : Option (List ℕ)) (reference : List ℕ) → LacksBase base reference → resolve base reference ≡ None
unfolding resolve
resolve_lacking None reference h = by (has_forbidden reference)
  where
    by : (b : Bool) → cond b None (cond (has_scheme reference) (Some reference) None) ≡ None
    by true = refl
    by false = rw h.1 refl
resolve_lacking (Some base) reference h = let no = h.0 in absurd (cc no)

pub references_are_resolved : ReferencesAreResolved
unfolding resolve
references_are_resolved base reference iri based allowed = (λ e. by (has_scheme reference) refl base based e, λ m. resolve_found base reference iri m allowed)
  where
    by : (b : Bool) → has_scheme reference ≡ b → (o : Option (List ℕ)) → IfSome o (λ x. has_scheme x ≡ true) → resolve o reference ≡ Some iri → Means o reference iri
    by true absolute o is e = (let s : Some reference ≡ Some iri = rw (allowed, absolute) at e in means_itself o reference iri absolute (sym (same_Some _ _ s)))
    by false relative None is e = (let s : None ≡ Some iri = rw (allowed, relative) at e in absurd (cc s))
    by false relative (Some b) is e = (let s : Some (resolved b reference) ≡ Some iri = rw (allowed, relative) at e in means_resolved b reference iri is relative (sym (same_Some _ _ s)))
