use Rattle.std.proofs.Common.{ap, subst, sym}
use Rattle.rdf_dataset.specs.State.{State, IsEmptyGraph}
use Rattle.rdf_dataset.specs.Staging.{Staging}
use Rattle.rdf_terms.specs.declared.quad.GraphName.TheVariants.{Named}
use Rattle.sparql_eval.specs.Inside.Staging.{emptied}
use Rattle.sparql_eval.proofs.GraphLemmas.{emptied_is_empty}
use Rattle.sparql_eval.proofs.graphs.drop_graph.Goals as goal

pub drop_name-requires : goal.drop_name-requires
drop_name-requires g c =
    record {
      empty = subst (λ (t : State). IsEmptyGraph t (Named c.in-Named.name)) (sym (ap (λ (s : Staging). s.now) c.in_ok-clear_graph.ensures.ok))
          (subst (IsEmptyGraph (emptied c.args.view.now.now c.args.graph.now)) c.in-Named.is (emptied_is_empty c.args.view.now.now c.args.graph.now));
    }
