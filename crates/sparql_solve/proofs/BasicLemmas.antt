-- The quads of a graph are a set of triples.
use Rattle.std.proofs.Common.{◌≡◌, ℕ, ◌≤◌, Bool, true, false, List, arith}
use Rattle.std.specs.List.{count_by, list_any}
use Rattle.rdf_terms.specs.Quad.{QuadParts}
use Rattle.rdf_terms.specs.declared.quad.GraphName.{GraphName}
use Rattle.rdf_dataset.specs.State.{State}
use Rattle.rdf_dataset.specs.Sorted.{ListsOnce}
use Rattle.sparql_algebra.specs.Listing.{graph_quads}
use Rattle.sparql_algebra.specs.Solutions.{is_triple}
use Rattle.sparql_algebra.proofs.CallerLemmas.{one, triple_once}
use Rattle.sparql_solve.proofs.MatchingLemmas.{IsSetOfTriples}

at_most_one : (b : Bool) (n : ℕ) → n ≡ one b → n ≤ 1
at_most_one true n e = omega (arith, e)
at_most_one false n e = omega (arith, e)

pub set_of_triples : (s : State) (graph : GraphName) (quads : List QuadParts) → ListsOnce (graph_quads s graph) quads → IsSetOfTriples quads
set_of_triples s graph quads h x y z =
    at_most_one (list_any (is_triple x y z) quads) (count_by (is_triple x y z) quads) (triple_once s graph quads h x y z)
