use Rattle.std.proofs.Common.{◌≤◌, drop, length}
use Rattle.sparql_eval.specs.Inside.Unread.{AreData}
use Rattle.sparql_eval.proofs.unread.unread_from.Given as goal

abbrev pub invariant-loop-from : goal.invariant-loop-from
invariant-loop-from l = record {
  bound : l.from ≤ length l.operations;
  all : AreData (drop l.from l.operations);
}

abbrev pub decreases-loop-from : goal.decreases-loop-from
decreases-loop-from l = l.from
