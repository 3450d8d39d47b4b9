use Rattle.std.proofs.Common.{ap, subst, ◌∙◌}
use Rattle.rdf_dataset.specs.Sorted.{ListsOnce}
use Rattle.sparql_values.specs.Mapping.{Mapping}
use Rattle.sparql_solve.specs.LookUps.{widened}
use Rattle.sparql_solve.specs.Matching.{quads_under}
use Rattle.sparql_solve.proofs.FewLemmas.{few_all}
use Rattle.sparql_solve.proofs.look_ups.few_found.Goals as goal

pub returns-then-few : goal.returns-then-few
returns-then-few g c =
    let s = g.S.Source.contents c.args.evaluation.now.source.now in
    record {
      graph = c.in-One.graph;
      places = c.in-Some.places.now;
      in_graph = c.in-One.is;
      alone = c.in-Some.ensures.alone;
      listed = subst (λ (m : Mapping). ListsOnce (quads_under s c.in-One.graph c.in-Some.places.now m) c.in_ok-few.few.quads.items)
          (c.in_ok-nothing.ensures ∙ ap (widened c.args.look_up.now.hidden) c.in_ok-unbound.ensures)
          (few_all s c.in-One.graph c.in-Some.places.now c.in_ok-nothing.nothing c.in_ok-few.few.are_all c.in_ok-few.few.quads.items c.in_ok-few.ensures.some c.if-few.true);
    }
