use Rattle.std.proofs.Common.{refl}
use Rattle.std.proofs.lemmas.Result.{IfOk-weaker}
use Rattle.sparql_solve.proofs.LookUpLemmas.{look_up_gives}
use Rattle.sparql_solve.proofs.matching.rows_of_one.Goals as goal

pub copies_grown-requires : goal.copies_grown-requires
copies_grown-requires g c = c.in_ok-quads.ensures.held

pub returns : goal.returns
returns g c =
    IfOk-weaker c.copies_grown.result _ _
    (λ out e. look_up_gives (g.S.Source.contents c.args.source.now) c.args.graph.now c.args.places.now c.args.row.now c.in_ok-quads.quads.items
    c.in_ok-quads.quads.items out.items c.in_ok-quads.ensures.listed refl e)
    c.copies_grown.ensures
