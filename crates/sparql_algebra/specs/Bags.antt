-- Lists as multisets (SPARQL 1.1 Query, section 18.3).
use Rattle.std.specs.Prelude.{◌≡◌, ℕ, zero, suc, List}
use Rattle.std.specs.List.{sum_by}

-- the two lists hold the same elements, each as often: every sum over the one is the sum over the other
abbrev pub SameBag : {X : Type 0} → List X → List X → Type 0
SameBag {X} xs ys = (f : X → ℕ) → sum_by f xs ≡ sum_by f ys

-- once, where it stands there at all
abbrev pub once_if_any : ℕ → ℕ
once_if_any zero = 0
once_if_any (suc n) = 1
