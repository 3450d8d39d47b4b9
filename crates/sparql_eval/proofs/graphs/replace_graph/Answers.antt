use Rattle.std.proofs.Common.{◌∙◌, ap}
use Rattle.rdf_dataset.specs.Staging.{Staging}
use Rattle.sparql_eval.proofs.GraphLemmas.{replaced}
use Rattle.sparql_eval.proofs.ResultLemmas.{on_ok}
use Rattle.sparql_eval.proofs.graphs.replace_graph.Goals as goal

pub add_graph-requires-clause-below : goal.add_graph-requires-clause-below
add_graph-requires-clause-below g c = c.requires.below _

pub returns-clause-ok : goal.returns-clause-ok
returns-clause-ok g c =
    on_ok c.add_graph.result _ _
    (λ e. e ∙ replaced c.args.view.now.now _ c.args.from.now c.args.to.now c.requires.apart (ap (λ (s : Staging). s.now) c.in_ok-clear_graph.ensures.ok))
    c.add_graph.ensures.ok
