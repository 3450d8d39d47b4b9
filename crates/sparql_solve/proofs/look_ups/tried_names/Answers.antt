use Rattle.std.proofs.lemmas.Result.{IfOk-weaker}
use Rattle.sparql_solve.proofs.SideLemmas.{tried_all}
use Rattle.sparql_solve.proofs.look_ups.tried_names.Goals as goal

pub returns-in-None : goal.returns-in-None
returns-in-None g c =
    IfOk-weaker c.graph_names.result _ _
    (λ names h. tried_all (g.S.Source.contents c.args.source.now) c.args.value names.items c.in-None.is h) c.graph_names.ensures
