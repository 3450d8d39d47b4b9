use Rattle.std.proofs.Common.{◌≡◌, drop}
use Rattle.sparql_eval.specs.Inside.Unread.{AreData}
use Rattle.sparql_eval.specs.Operations.{steps}
use Rattle.sparql_eval.proofs.unread.net_of_unread.Given as goal

abbrev pub invariant-loop-operation : goal.invariant-loop-operation
invariant-loop-operation g l = record {
  beneath : l.unread.under ≡ g.S.Source.contents l.under;
  all : AreData (drop l.operation-index l.later);
  left : steps l.unread.now (drop l.operation-index l.later) ≡ steps (g.S.Source.contents l.under) l.operations;
}
