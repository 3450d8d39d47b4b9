use Rattle.std.proofs.Common.{refl}
use Rattle.std.proofs.lemmas.Result.{IfOk-weaker}
use Rattle.sparql_solve.proofs.LookUpLemmas.{look_up_gives}
use Rattle.sparql_solve.proofs.matching.moved_of_one.Goals as goal

pub row_grown-requires : goal.row_grown-requires
row_grown-requires g c = c.in_ok-found.ensures.held

pub returns : goal.returns
returns g c =
    IfOk-weaker c.row_grown.result _ _
    (λ out e. look_up_gives (g.S.Source.contents c.args.source.now) c.args.graph.now c.args.places.now c.args.row c.in_ok-found.found.items
    c.in_ok-found.found.items out.items c.in_ok-found.ensures.listed refl e)
    c.row_grown.ensures
