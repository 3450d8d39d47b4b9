use Rattle.std.proofs.Common.{◌≡◌}
use Rattle.dataset_model.proofs.rounds.change.Given as goal

abbrev pub invariant-loop : goal.invariant-loop
invariant-loop g l = l.staged.under ≡ l.fn.staged.under
