use Rattle.std.proofs.Common.{◌≡◌}
use Rattle.dataset_model.proofs.steps.clear.Given as goal

abbrev pub invariant-loop-entry : goal.invariant-loop-entry
invariant-loop-entry g l = l.staged.under ≡ l.fn.staged.under
