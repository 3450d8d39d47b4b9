use Rattle.std.proofs.Common.{◌≡◌, false, [], length}
use Rattle.rdf_turtle.specs.Inside.Walks.{unbound_start}
use Rattle.rdf_turtle.proofs.faulty_name.first_unbound_in.Given as goal

abbrev pub invariant-loop-found : goal.invariant-loop-found
invariant-loop-found l = unbound_start (length l.text) false false [] l.initial.walk ≡ unbound_start (length l.text) l.behind l.declares l.bound.keys l.walk

abbrev pub decreases-loop-found : goal.decreases-loop-found
decreases-loop-found l = length l.walk
