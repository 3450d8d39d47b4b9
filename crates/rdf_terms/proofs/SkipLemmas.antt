-- What is left behind the characters that pass.
use Rattle.std.proofs.Common.{◌≡◌, ◌<◌, ◌≤◌, ◌⊎◌, ℕ, Bool, true, false, List, [], ◌∷◌, ◌++◌, length, Some, refl, sym, ap, ◌∙◌, inl, inr, length-append, arith}
use Rattle.std.specs.List.{AllByRecursion}
use Rattle.std.proofs.lemmas.Bool.{cases_Bool}
use Rattle.rdf_terms.specs.Skips.{skip, some_of}
use Rattle.rdf_terms.proofs.OptionLemmas.{some_is, none_is, guard_some}

abbrev pub AllPass : (ℕ → Bool) → List ℕ → Type 0
AllPass p cs = AllByRecursion (λ c. p c ≡ true) cs

pub skip_over : (p : ℕ → Bool) (xs ys : List ℕ) → AllPass p xs → skip p (xs ++ ys) ≡ skip p ys
unfolding skip
skip_over p [] ys h = refl
skip_over p (x ∷ xs) ys h = rw h.0 (skip_over p xs ys h.1)

pub skip_front : (p : ℕ → Bool) (cs : List ℕ) → (xs : List ℕ) × (cs ≡ xs ++ skip p cs) × AllPass p xs
unfolding skip
skip_front p [] = ([], refl, tt)
skip_front p (c ∷ cs) =
    elim (cases_Bool (p c)) [
      | inl is ↦ let h = skip_front p cs in rw is (c ∷ h.0, ap (λ (t : List ℕ). c ∷ t) h.1, (is, h.2))
      | inr not ↦ rw not ([], refl, tt)
    ]

-- where it goes on, and where it stops
pub skip_step : (p : ℕ → Bool) (c : ℕ) (cs : List ℕ) → p c ≡ true → skip p (c ∷ cs) ≡ skip p cs
unfolding skip
skip_step p c cs h = rw h refl

pub skip_stop : (p : ℕ → Bool) (c : ℕ) (cs : List ℕ) → p c ≡ false → skip p (c ∷ cs) ≡ c ∷ cs
unfolding skip
skip_stop p c cs h = rw h refl

pub skip_end : (p : ℕ → Bool) → skip p [] ≡ []
unfolding skip
skip_end p = refl

-- as it was, or less
pub skip_less : (p : ℕ → Bool) (cs : List ℕ) → (skip p cs ≡ cs) ⊎ (length (skip p cs) < length cs)
skip_less p cs =
    let f = skip_front p cs in
    by_front f.0 f.1
  where
    by_front : (xs : List ℕ) → cs ≡ xs ++ skip p cs → (skip p cs ≡ cs) ⊎ (length (skip p cs) < length cs)
    by_front [] e = inl (sym e)
    by_front (x ∷ xs) e = inr (omega (arith, ap length e, length-append xs (skip p cs)))

pub skip_no_longer : (p : ℕ → Bool) (cs : List ℕ) → length (skip p cs) ≤ length cs
skip_no_longer p cs =
    let f = skip_front p cs in
    omega (arith, ap length f.1, length-append f.0 (skip p cs))

pub some_sound : (f p : ℕ → Bool) (cs rest : List ℕ) → some_of f p cs ≡ Some rest
    → (c : ℕ) × (xs : List ℕ) × (cs ≡ c ∷ (xs ++ rest)) × (f c ≡ true) × AllPass p xs
unfolding some_of
some_sound f p [] rest e = none_is rest e
some_sound f p (c ∷ cs) rest e =
    let g = guard_some (f c) (Some (skip p cs)) rest e in
    let s = skip_front p cs in
    let same : skip p cs ≡ rest = some_is (skip p cs) rest g.1 in
    (c, s.0, ap (λ (t : List ℕ). c ∷ t) (s.1 ∙ ap (λ (t : List ℕ). s.0 ++ t) same), g.0, s.2)

pub some_complete : (f p : ℕ → Bool) (c : ℕ) (xs ys : List ℕ) → f c ≡ true → AllPass p xs → some_of f p (c ∷ (xs ++ ys)) ≡ Some (skip p ys)
unfolding some_of
some_complete f p c xs ys h a = rw h (ap (λ (t : List ℕ). Some t) (skip_over p xs ys a))
