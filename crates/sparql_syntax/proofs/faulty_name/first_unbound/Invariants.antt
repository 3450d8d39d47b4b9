use Rattle.std.proofs.Common.{◌≡◌, false, [], length}
use Rattle.sparql_syntax.proofs.NameWalks.{unbound_start}
use Rattle.sparql_syntax.proofs.faulty_name.first_unbound.Given as goal

abbrev pub invariant-loop-found : goal.invariant-loop-found
invariant-loop-found l = unbound_start (length l.text) false [] l.initial.walk ≡ unbound_start (length l.text) l.declares l.bound.keys l.walk

abbrev pub decreases-loop-found : goal.decreases-loop-found
decreases-loop-found l = length l.walk
