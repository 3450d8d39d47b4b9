-- The lines of a dataset, sorted.
use Rattle.std.specs.Prelude.{◌≡◌, ℕ, List, map}
use Rattle.rdf_terms.specs.Quad.{QuadParts}
use Rattle.rdf_lines.specs.QuadText.{quad_text}
use Rattle.rdf_dataset.specs.Sorted.{ListsSorted}
use Rattle.rdf_dataset.specs.State.{State}

-- the lines of all quads, sorted
abbrev pub ListsQuads : State → List (List ℕ) → Type 0
ListsQuads s lines = (quads : List QuadParts) × ListsSorted s.quads quads × (lines ≡ map quad_text quads)
