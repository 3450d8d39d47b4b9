use Rattle.std.proofs.Common.{◌≡◌, false, length}
use Rattle.rdf_turtle.specs.Inside.Walks.{lacking_start}
use Rattle.rdf_turtle.proofs.faulty_name.first_lacking.Given as goal

abbrev pub invariant-loop-found : goal.invariant-loop-found
invariant-loop-found l = lacking_start (length l.text) false false l.based l.initial.walk ≡ lacking_start (length l.text) l.behind l.moves l.in_force l.walk

abbrev pub decreases-loop-found : goal.decreases-loop-found
decreases-loop-found l = length l.walk
