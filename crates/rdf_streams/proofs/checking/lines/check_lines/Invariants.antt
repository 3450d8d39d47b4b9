use Rattle.rdf_streams.proofs.CheckLemmas.{Counted}
use Rattle.rdf_streams.proofs.checking.lines.check_lines.Given as goal

abbrev pub invariant-loop-turn : goal.invariant-loop-turn
invariant-loop-turn g l = Counted (g.R.Read.remaining l.fn.reader) (g.R.Read.remaining l.reader) l.fn.format l.turn l.document l.count
