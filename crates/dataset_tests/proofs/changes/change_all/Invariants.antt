use Rattle.std.proofs.Common.{◌≡◌}
use Rattle.dataset_tests.proofs.changes.change_all.Given as goal

abbrev pub invariant-loop-text : goal.invariant-loop-text
invariant-loop-text g l = l.view.under ≡ l.fn.view.under
