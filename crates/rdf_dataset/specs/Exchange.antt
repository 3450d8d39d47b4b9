-- Quads that go and quads that come in their place, as DELETE/INSERT has them (SPARQL 1.1 Update, section 3.1.3).
use Rattle.std.specs.Prelude.{ℕ, ◌+◌, List}
use Rattle.std.specs.FinSet as set
use Rattle.rdf_terms.specs.Quad.{QuadParts}
use Rattle.rdf_dataset.specs.Insertion.{with_all}
use Rattle.rdf_dataset.specs.State.{State}

-- so many blank numbers are taken, and the first quads go, before the others come in with the names of their graphs
abbrev pub exchanged : State → List QuadParts → ℕ → List QuadParts → State
exchanged s gone blanks come = with_all (record { quads = set.difference s.quads (set.from_list gone); names = s.names; next = s.next + blanks }) come
