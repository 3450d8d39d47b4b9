use Rattle.std.proofs.Common.{◌∙◌, ap}
use Rattle.std.proofs.lemmas.List.{drop_all}
use Rattle.rdf_dataset.specs.Staging.{Staging}
use Rattle.sparql_eval.proofs.QuadLemmas.{removing_ends, removing_goes_on}
use Rattle.sparql_eval.proofs.quads.remove_all.Goals as goal

pub loop-quad-preserved : goal.loop-quad-preserved
loop-quad-preserved g c = record {
  beneath = ap (λ (s : Staging). s.under) c.in_ok-remove.ensures.ok ∙ c.loop-quad.invariant.beneath;
  left = removing_goes_on _ _ _ _ _ _ c.loop-quad-test.true c.quad-item.is (ap (λ (s : Staging). s.now) c.in_ok-remove.ensures.ok) c.loop-quad.invariant.left;
}

pub returns-clause-ok : goal.returns-clause-ok
returns-clause-ok g c = removing_ends _ _ _ _ (drop_all _ _ c.loop-quad-test.false) c.loop-quad.invariant.left
