use Rattle.std.proofs.Common.{◌-◌}
use Rattle.sparql_solve.proofs.TurnedLemmas.{IsShownBelow}
use Rattle.sparql_solve.proofs.mappings.Mapping.shown.Given as goal

abbrev pub invariant-loop-from : goal.invariant-loop-from
invariant-loop-from l = IsShownBelow l.columns l.self l.out l.from

abbrev pub decreases-loop-from : goal.decreases-loop-from
decreases-loop-from l = l.len - l.from
