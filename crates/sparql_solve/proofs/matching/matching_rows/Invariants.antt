use Rattle.std.proofs.Common.{length}
use Rattle.sparql_algebra.specs.Bags.{SameBag}
use Rattle.sparql_algebra.specs.Listing.{Listing, Lists}
use Rattle.sparql_solve.specs.Matching.{matching}
use Rattle.sparql_solve.proofs.PatternOrderLemmas.{asked}
use Rattle.sparql_solve.proofs.matching.matching_rows.Given as goal

abbrev pub invariant-loop-alloc : goal.invariant-loop-alloc
invariant-loop-alloc g l =
    (d : Listing) → Lists (g.S.Source.contents l.source) d →
    SameBag (matching (d.quads l.graph) (asked l.rest.items) l.rows.items) (matching (d.quads l.graph) l.patterns l.fn.start.items)

abbrev pub decreases-loop-alloc : goal.decreases-loop-alloc
decreases-loop-alloc g l = length l.rest.items
