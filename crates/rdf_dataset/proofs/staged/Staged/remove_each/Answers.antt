use Rattle.std.proofs.Common.{◌∙◌, ap}
use Rattle.std.proofs.lemmas.List.{drop_all}
use Rattle.rdf_dataset.specs.Staging.{Staging}
use Rattle.rdf_dataset.specs.Inside.Emptied.{less}
use Rattle.rdf_dataset.proofs.ClearingLemmas.{removing_ends, removing_goes_on, same_staging}
use Rattle.rdf_dataset.proofs.staged.Staged.remove_each.Goals as goal

pub loop-quad-preserved : goal.loop-quad-preserved
loop-quad-preserved g c = record {
  beneath = ap (λ (s : Staging). s.under) c.in_ok-remove.ensures.ok ∙ c.loop-quad.invariant.beneath;
  left = removing_goes_on _ _ _ _ _ _ c.loop-quad-test.true c.quad-item.is (ap (λ (s : Staging). s.now) c.in_ok-remove.ensures.ok) c.loop-quad.invariant.left;
}

pub returns-clause-ok : goal.returns-clause-ok
returns-clause-ok g c = same_staging c.args.self.now c.loop-quad.self (less c.args.self.now.now c.args.quads.now) c.loop-quad.invariant.beneath (removing_ends _ _ _ _ (drop_all _ _ c.loop-quad-test.false) c.loop-quad.invariant.left)

pub returns-in_err-remove-clause-beneath : goal.returns-in_err-remove-clause-beneath
returns-in_err-remove-clause-beneath g c = ap (λ (s : Staging). s.under) c.in_err-remove.ensures.err ∙ c.loop-quad.invariant.beneath
