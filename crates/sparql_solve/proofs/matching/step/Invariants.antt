use Rattle.std.proofs.Common.{◌≡◌, ◌∷◌, length}
use Rattle.std.specs.Vec.Iter.{into_iter_items, into_iter_len}
use Rattle.rdf_dataset.specs.Sorted.{ListsOnce}
use Rattle.sparql_solve.specs.Matching.{stepped, quads_under}
use Rattle.sparql_solve.specs.Members.{AreMoreSolutions}
use Rattle.sparql_solve.proofs.matching.step.Given as goal

abbrev pub invariant-loop-next : goal.invariant-loop-next
invariant-loop-next g l = record {
  gives : AreMoreSolutions (g.S.Source.contents l.source) l.out.items (λ d. stepped (d.quads l.graph) (l.row ∷ into_iter_items l.next-iterator) l.places)
      (λ d. stepped (d.quads l.graph) l.fn.rows.items l.places);
  looked : ListsOnce (quads_under (g.S.Source.contents l.source) l.graph l.places l.row) l.quads.items;
  count : into_iter_len l.next-iterator ≡ length (into_iter_items l.next-iterator);
}
