-- Lists of quads and names, and two counters, as a change.
use Rattle.std.specs.Prelude.{ℕ, List}
use Rattle.std.specs.FinSet as set
use Rattle.rdf_terms.specs.declared.term.Term.{Term}
use Rattle.rdf_terms.specs.Quad.{QuadParts}
use Rattle.rdf_dataset.specs.State.{Change}

abbrev pub change_of : List QuadParts → List QuadParts → List Term → List Term → ℕ → ℕ → Change
change_of added removed names_added names_removed before after = record {
  added = set.from_list added;
  removed = set.from_list removed;
  names_added = set.from_list names_added;
  names_removed = set.from_list names_removed;
  before = before;
  after = after;
}
