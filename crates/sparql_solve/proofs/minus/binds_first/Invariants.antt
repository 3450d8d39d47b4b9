use Rattle.sparql_solve.proofs.BoundColumnLemmas.{AreSeenBelow}
use Rattle.sparql_solve.proofs.minus.binds_first.Given as goal

abbrev pub invariant-loop-next : goal.invariant-loop-next
invariant-loop-next l = AreSeenBelow l.row l.columns l.from
