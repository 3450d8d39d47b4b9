use Rattle.std.proofs.Common.{refl}
use Rattle.sparql_solve.proofs.FitLemmas.{listed_held}
use Rattle.sparql_solve.proofs.matching.quads_of.Goals as goal

pub returns-clause-held : goal.returns-clause-held
returns-clause-held g c =
    listed_held (g.S.Source.contents c.args.source.now) c.args.graph.now c.args.places.now c.args.row.now c.quads_under.new.quads.items
    c.quads_under.new.quads.items c.in_ok-quads_under.ensures refl
