use Rattle.rdf_keeper.proofs.StartingLemmas.{Reading}
use Rattle.rdf_keeper.proofs.program.starting.begun_by_lines.Given as goal

abbrev pub invariant-loop-turn : goal.invariant-loop-turn
invariant-loop-turn g l = Reading (g.R.Read.remaining l.fn.reader) (g.R.Read.remaining l.reader) l.fn.format l.fn.base l.turn l.so_far
