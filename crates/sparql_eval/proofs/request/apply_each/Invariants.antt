use Rattle.std.proofs.Common.{◌≡◌, drop}
use Rattle.sparql_eval.specs.Operations.{steps}
use Rattle.sparql_eval.proofs.request.apply_each.Given as goal

abbrev pub invariant-loop-operation : goal.invariant-loop-operation
invariant-loop-operation g l = record {
  beneath : l.staged.under ≡ l.fn.staged.under;
  left : steps l.staged.now (drop l.operation-index l.operations) ≡ steps l.fn.staged.now l.operations;
}
