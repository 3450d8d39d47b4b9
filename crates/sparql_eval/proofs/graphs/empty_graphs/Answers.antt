use Rattle.std.proofs.Common.{List, ℕ, ◌∙◌, ap, sym}
use Rattle.rdf_terms.specs.declared.quad.GraphName.TheVariants.{Named}
use Rattle.rdf_terms.specs.declared.term.Term.TheVariants.{Iri}
use Rattle.rdf_dataset.specs.Staging.{Staging}
use Rattle.sparql_eval.specs.Inside.Staging.{graphs_emptied, one_emptied}
use Rattle.sparql_eval.proofs.GraphLemmas.{both_emptied, default_either_way, default_emptied, graph_emptied}
use Rattle.sparql_eval.proofs.ResultLemmas.{on_ok}
use Rattle.sparql_eval.proofs.graphs.empty_graphs.Goals as goal

pub returns-in_ok-copy-in-Graph-clause-ok : goal.returns-in_ok-copy-in-Graph-clause-ok
returns-in_ok-copy-in-Graph-clause-ok g c =
    let s = c.args.view.now.now in
    on_ok c.empty_one.result _ _
    (λ e. e ∙ ap (λ (i : List ℕ). one_emptied c.args.names s (Named (Iri i))) c.in_ok-copy-in-Graph.ensures ∙ graph_emptied c.args.names s c.in-Graph.iri ∙ ap (graphs_emptied c.args.names s) (sym c.in-Graph.is))
    c.empty_one.ensures.ok

pub returns-in-Default-clause-ok : goal.returns-in-Default-clause-ok
returns-in-Default-clause-ok g c =
    let s = c.args.view.now.now in
    on_ok c.clear_default.result _ _
    (λ e. ap (λ (v : Staging). v.now) e ∙ default_either_way c.args.names s ∙ default_emptied c.args.names s ∙ ap (graphs_emptied c.args.names s) (sym c.in-Default.is))
    c.clear_default.ensures.ok

pub returns-in_ok-clear_default-in-All-clause-ok : goal.returns-in_ok-clear_default-in-All-clause-ok
returns-in_ok-clear_default-in-All-clause-ok g c =
    let s = c.args.view.now.now in
    on_ok c.empty_named-in-All.result _ _
    (λ e. e ∙ both_emptied c.args.names s _ (ap (λ (v : Staging). v.now) c.in_ok-clear_default-in-All.ensures.ok ∙ default_either_way c.args.names s) ∙ ap (graphs_emptied c.args.names s) (sym c.in-All.is))
    c.empty_named-in-All.ensures.ok
