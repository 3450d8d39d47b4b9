use Rattle.std.proofs.Common.{◌≡◌}
use Rattle.dataset_model.proofs.twins.vary.Given as goal

abbrev pub invariant-loop : goal.invariant-loop
invariant-loop l = l.staged.under ≡ l.fn.staged.under
