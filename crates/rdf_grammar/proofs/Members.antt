-- A turn of a loop over the members of a list.
use Rattle.std.proofs.Common.{◌≡◌, ◌∙◌, ap, sym, ℕ, zero, suc, ◌+◌, ◌<◌, Bool, true, List, [], ◌∷◌, map, drop, length, get_or, drop-cons, add-one, arith, Some}
use Rattle.std.proofs.lemmas.Bool.{and_parts}
use Rattle.std.specs.List.{list_all}
use Rattle.rdf_grammar.specs.Holds.{holds}
use Rattle.rdf_grammar.specs.Steps.{Step, and_then, each}

-- ---- what holds of each member

member : {A : Type 0} (f : A → Bool) (xs : List A) (i : ℕ) (x : A) → i < length xs → x ≡ get_or xs i x → list_all holds (map f (drop i xs)) ≡ true
    → (f x ≡ true) × (list_all holds (map f (drop (suc i) xs)) ≡ true)
member f [] i x l e h = absurd (omega (arith, l))
member f (y ∷ ys) zero x l e h = let p = and_parts (f y) (list_all holds (map f ys)) h in (ap f e ∙ p.0, p.1)
member f (y ∷ ys) (suc i) x l e h = member f ys i x (omega (arith, l)) e h

-- the next member, and those behind it
pub next_member : {A : Type 0} (f : A → Bool) (xs : List A) (i : ℕ) (x : A) → i < length xs → x ≡ get_or xs i x → list_all holds (map f (drop i xs)) ≡ true
    → (f x ≡ true) × (list_all holds (map f (drop (i + 1) xs)) ≡ true)
next_member f xs i x l e h = let r = member f xs i x l e h in (r.0, rw add-one r.1)

-- ---- the members from a place on

pub drop_is : {A : Type 0} (xs : List A) (i : ℕ) (x : A) → i < length xs → x ≡ get_or xs i x → drop i xs ≡ x ∷ drop (suc i) xs
drop_is {A = A} xs i x l is = drop-cons xs i x l ∙ ap (λ (y : A). y ∷ drop (suc i) xs) (sym is)

-- a step for each member
pub next_step : {S A B : Type 0} (f : B → Step S (Unit {0})) (g : A → B) (xs : List A) (i : ℕ) (x : A) (s u : S) → i < length xs → x ≡ get_or xs i x → f (g x) s ≡ Some (tt, u)
    → each f (map g (drop i xs)) s ≡ each f (map g (drop (i + 1) xs)) u
next_step {A = A} f g xs i x s u l is h =
    rw add-one (ap (λ (ys : List A). each f (map g ys) s) (drop_is xs i x l is) ∙ ap (λ o. and_then o (λ _. each f (map g (drop (suc i) xs)))) h)
