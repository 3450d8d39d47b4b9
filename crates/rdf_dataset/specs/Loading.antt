-- The net that the quads of a document make, whose blank nodes are numbered on from the counter.
use Rattle.std.specs.Prelude.{◌≡◌, ℕ, ◌+◌, ◌<◌, ◌≤◌, List, Option, None, Some}
use Rattle.std.specs.FinSet as set
use Rattle.std.specs.List.{flat_map}
use Rattle.rdf_terms.specs.Quad.{QuadParts}
use Rattle.rdf_dataset.specs.Insertion.{names_in, with_data}
use Rattle.rdf_dataset.specs.State.{State, Change, Names, Quads, IsSound, last_number, net_between}

-- what quads and names of their graphs make of sets of both
abbrev pub quads_with : Quads → List QuadParts → Quads
quads_with s quads = set.union s (set.from_list quads)

abbrev pub names_with : Names → List QuadParts → Names
names_with s quads = set.union s (set.from_list (flat_map names_in quads))

-- the net to the state with the quads, which is sound, or none where their blank nodes would bring the counter past the last number
abbrev pub IsNetOfData : State → List QuadParts → ℕ → Option Change → Type 0
IsNetOfData s quads blanks None = last_number < s.next + blanks
IsNetOfData s quads blanks (Some net) =
    (s.next + blanks ≤ last_number) × (IsSound (with_data s quads blanks) × (net ≡ net_between s (with_data s quads blanks)))
