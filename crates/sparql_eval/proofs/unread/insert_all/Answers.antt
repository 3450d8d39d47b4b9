use Rattle.std.proofs.Common.{arith, ap, ◌∙◌, length}
use Rattle.rdf_dataset.specs.Insertion.{with_all}
use Rattle.rdf_dataset.specs.Staging.{Staging}
use Rattle.rdf_dataset.proofs.CallerLemmas.{none_left}
use Rattle.sparql_eval.proofs.QuadLemmas.{coming_below, coming_ends, coming_goes_on}
use Rattle.sparql_eval.proofs.UnreadLemmas.{same_staging}
use Rattle.sparql_eval.proofs.unread.insert_all.Goals as goal

pub loop-quad-preserved : goal.loop-quad-preserved
loop-quad-preserved g c =
    let next = c.in-Some.ensures.steps in
    record {
      steps = tt;
      ends = tt;
      beneath = ap (λ (s : Staging). s.under) c.in_ok-more.ensures ∙ c.loop-quad.invariant.beneath;
      left = coming_goes_on _ _ _ _ _ _ next.0 (ap (λ (s : Staging). s.now) c.in_ok-more.ensures) c.loop-quad.invariant.left;
      below = coming_below _ _ _ _ _ next.0 (ap (λ (s : Staging). s.now) c.in_ok-more.ensures) c.loop-quad.invariant.below;
      count = omega (arith, ap length next.0, next.1, c.loop-quad.invariant.count);
    }

pub returns : goal.returns
returns g c = same_staging c.loop-quad.more c.args.unread (with_all c.args.unread.now c.args.quads.items) c.loop-quad.invariant.beneath (coming_ends _ _ _ (none_left _ _ c.loop-quad.invariant.count c.in-None.ensures.steps.0) c.loop-quad.invariant.left)
