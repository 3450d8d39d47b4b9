use Rattle.std.proofs.Common.{◌∙◌, ap}
use Rattle.std.proofs.lemmas.List.{drop_all}
use Rattle.rdf_dataset.specs.Staging.{Staging}
use Rattle.sparql_eval.specs.Operations.{without_all}
use Rattle.sparql_eval.proofs.QuadLemmas.{removing_ends, removing_goes_on}
use Rattle.sparql_eval.proofs.UnreadLemmas.{same_staging}
use Rattle.sparql_eval.proofs.unread.remove_all.Goals as goal

pub loop-quad-preserved : goal.loop-quad-preserved
loop-quad-preserved g c = record {
  beneath = ap (λ (s : Staging). s.under) c.in_ok-less.ensures ∙ c.loop-quad.invariant.beneath;
  left = removing_goes_on _ _ _ _ _ _ c.loop-quad-test.true c.quad-item.is (ap (λ (s : Staging). s.now) c.in_ok-less.ensures) c.loop-quad.invariant.left;
}

pub returns : goal.returns
returns g c = same_staging c.loop-quad.less c.args.unread (without_all c.args.unread.now c.args.quads.now) c.loop-quad.invariant.beneath (removing_ends _ _ _ _ (drop_all _ _ c.loop-quad-test.false) c.loop-quad.invariant.left)
