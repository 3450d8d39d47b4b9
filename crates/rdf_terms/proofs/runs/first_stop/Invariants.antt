use Rattle.std.proofs.Common.{◌≤◌, ◌-◌}
use Rattle.std.specs.List.{position_or_len}
use Rattle.rdf_terms.proofs.runs.first_stop.Given as goal

abbrev pub invariant-loop-front : goal.invariant-loop-front
invariant-loop-front g l = l.front ≤ position_or_len (g.S.Stops.ends l.stops) l.text

abbrev pub decreases-loop-front : goal.decreases-loop-front
decreases-loop-front g l = l.last - l.front
