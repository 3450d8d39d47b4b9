use Rattle.std.proofs.Common.{length}
use Rattle.rdf_turtle.proofs.StraightReading.{Read}
use Rattle.rdf_turtle.proofs.straight.turns.Given as goal

abbrev pub invariant-loop-parser : goal.invariant-loop-parser
invariant-loop-parser g l = Read l.depth l.fn.scope l.initial.parser l.parser l.pending l.scope l.declared.keys

abbrev pub decreases-loop-parser : goal.decreases-loop-parser
decreases-loop-parser g l = length l.parser
