use Rattle.std.proofs.Common.{◌∙◌, ap}
use Rattle.rdf_dataset.specs.Staging.{Staging}
use Rattle.sparql_eval.proofs.GraphLemmas.{named_go, named_stay}
use Rattle.sparql_eval.proofs.ResultLemmas.{on_ok}
use Rattle.sparql_eval.proofs.graphs.empty_named.Goals as goal

pub returns-in-Stay-clause-ok : goal.returns-in-Stay-clause-ok
returns-in-Stay-clause-ok g c =
    on_ok c.clear_named.result _ _
    (λ e. ap (λ (s : Staging). s.now) e ∙ named_stay c.args.view.now.now c.args.names c.in-Stay.is)
    c.clear_named.ensures.ok

pub returns-in-Go-clause-ok : goal.returns-in-Go-clause-ok
returns-in-Go-clause-ok g c =
    on_ok c.drop_named.result _ _
    (λ e. ap (λ (s : Staging). s.now) e ∙ named_go c.args.view.now.now c.args.names c.in-Go.is)
    c.drop_named.ensures.ok
