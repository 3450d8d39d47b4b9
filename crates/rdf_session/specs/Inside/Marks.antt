-- The entries of a map as the marks that they stand for, and the same listed by their places.
use Rattle.std.specs.Prelude.{◌≡◌, ℕ, ◌+◌, Bool, true, false, cond, List, map as map_list, length, Some, Vec}
use Rattle.std.specs.declared.alloc.Global.{Global}
use Rattle.std.specs.Cmp.Lexicographic.{slice_cmp}
use Rattle.std.specs.FinMap as map
use Rattle.std.specs.List.{list_any}
use Rattle.std.specs.Ordering.{is_eq, nat_cmp, ordering_then}
use Rattle.rdf_session.specs.History.{Marks}

abbrev pub Entry : Type 0
Entry = Vec ℕ Global × ℕ

abbrev pub mark_of : Entry → List ℕ × ℕ
mark_of e = (e.0.items, e.1)

abbrev pub marks_of : List Entry → Marks
marks_of es = map.from_entries (map_list mark_of es)

-- a name at a place
abbrev pub Spot : Type 0
Spot = ℕ × Vec ℕ Global

-- whether it is that name at that place
abbrev pub is_spot : ℕ → List ℕ → Spot → Bool
is_spot place name spot = is_eq (ordering_then (nat_cmp place spot.0) (slice_cmp nat_cmp name spot.1.items))

abbrev pub is_listed : ℕ → List ℕ → List Spot → Bool
is_listed place name spots = list_any (is_spot place name) spots

-- a name that is listed at a place is there; and where all are listed, so is each at its place
pub record Lists (all : Bool) (spots : List Spot) (marks : Marks) : Type 0 where
  pub sound : (name : List ℕ) (place : ℕ) → is_listed place name spots ≡ true → map.get marks name ≡ Some place
  pub whole : all ≡ true → (name : List ℕ) (place : ℕ) → map.get marks name ≡ Some place → is_listed place name spots ≡ true

-- the spot was listed, and no other goes
pub record Takes (spot : Spot) (old new : List Spot) : Type 0 where
  pub was : is_listed spot.0 spot.1.items old ≡ true
  pub others : (name : List ℕ) (place : ℕ) → is_listed place name new ≡ cond (is_spot place name spot) false (is_listed place name old)
  pub fewer : length new + 1 ≡ length old
