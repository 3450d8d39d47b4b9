use Rattle.std.proofs.Common.{subst}
use Rattle.std.specs.Prelude.{IsPermutation}
use Rattle.rdf_store.proofs.ranks.quads_by_rank.Goals as goal

pub sorted_quads-requires-clause-has : goal.sorted_quads-requires-clause-has
sorted_quads-requires-clause-has c = rw c.in-Some.is at c.in_ok-all.ensures.has

pub returns-clause-same : goal.returns-clause-same
returns-clause-same c =
    subst (λ l. IsPermutation l c.in_ok-quads.quads.items) (rw c.in-Some.is at c.in_ok-all.ensures.are) c.in_ok-quads.ensures.same
