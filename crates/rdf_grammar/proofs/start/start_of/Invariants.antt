use Rattle.std.proofs.Common.{◌≡◌, length}
use Rattle.rdf_grammar.specs.Walks.{start_behind}
use Rattle.rdf_grammar.proofs.start.start_of.Given as goal

abbrev pub invariant-loop-found : goal.invariant-loop-found
invariant-loop-found l = start_behind (length l.text) l.number l.initial.walk ≡ start_behind (length l.text) l.before l.walk

abbrev pub decreases-loop-found : goal.decreases-loop-found
decreases-loop-found l = length l.walk
