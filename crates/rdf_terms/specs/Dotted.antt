-- Names of units with dots between them, as labels and local parts are: their form, and how far one reaches.
use Rattle.std.specs.Prelude.{◌≡◌, ◌<◌, ℕ, zero, suc, Bool, true, ◌==◌, List, [], ◌∷◌, ◌++◌, length, Option, Some, None}
use Rattle.std.specs.List.{AllByRecursion}
use Rattle.rdf_terms.specs.Skips.{skip}

-- ---- the form

-- one character of a class
abbrev pub IsOne : (ℕ → Bool) → List ℕ → Type 0
IsOne class unit = (c : ℕ) × (unit ≡ c ∷ []) × (class c ≡ true)

-- Units, each with dots or none before it: units and dots, the last no dot.
abbrev pub IsDotted : (List ℕ → Type 0) → List ℕ → List (List ℕ) → Type 0
IsDotted One slice [] = slice ≡ []
IsDotted One slice (unit ∷ units) =
    (dots others : List ℕ) × (slice ≡ dots ++ (unit ++ others)) × AllByRecursion (λ c. c ≡ 46) dots × One unit × IsDotted One others units

-- ---- reading from left to right, by a reader of one unit: what follows a unit, where one stands there

-- Calls answer what the reader answers, which leaves less behind a unit.
pub record ReadsUnits (answers : List ℕ → Option (List ℕ) → Type 0) (one : List ℕ → Option (List ℕ)) : Type 0 where
  pub answered : (cs : List ℕ) (answer : Option (List ℕ)) → answers cs answer → answer ≡ one cs
  pub shorter : (cs rest : List ℕ) → one cs ≡ Some rest → length rest < length cs

abbrev pub skip_dots : List ℕ → List ℕ
skip_dots cs = skip (λ c. c == 46) cs

-- what follows units with dots between them: dots belong to it only where a unit follows
unfoldable pub dotted : (List ℕ → Option (List ℕ)) → ℕ → List ℕ → List ℕ
dotted one zero cs = cs
dotted one (suc n) cs = elim (one (skip_dots cs)) [ None ↦ cs | Some rest ↦ dotted one n rest ]

unfoldable pub dotted_at : (List ℕ → Option (List ℕ)) → List ℕ → List ℕ
dotted_at one cs = dotted one (length cs) cs
