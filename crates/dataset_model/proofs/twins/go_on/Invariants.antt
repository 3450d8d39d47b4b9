use Rattle.std.proofs.Common.{◌≡◌}
use Rattle.dataset_model.proofs.twins.go_on.Given as goal

abbrev pub invariant-loop : goal.invariant-loop
invariant-loop l = l.twins.dataset ≡ l.twins.plain
