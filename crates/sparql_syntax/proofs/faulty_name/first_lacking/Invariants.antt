use Rattle.std.proofs.Common.{◌≡◌, false, length}
use Rattle.sparql_syntax.proofs.NameWalks.{lacking_start}
use Rattle.sparql_syntax.proofs.faulty_name.first_lacking.Given as goal

abbrev pub invariant-loop-found : goal.invariant-loop-found
invariant-loop-found l = lacking_start (length l.text) false l.based l.initial.walk ≡ lacking_start (length l.text) l.moves l.in_force l.walk

abbrev pub decreases-loop-found : goal.decreases-loop-found
decreases-loop-found l = length l.walk
