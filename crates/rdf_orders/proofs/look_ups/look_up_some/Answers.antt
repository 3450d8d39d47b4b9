use Rattle.std.proofs.Common.{arith, refl, ◌∙◌, rules}
use Rattle.std.proofs.lemmas.Grind.{common_steps}
use Rattle.rdf_orders.proofs.LookUpLemmas.{progress_start, progress_push, progress_all, progress_some, fewer_left}
use Rattle.rdf_orders.proofs.look_ups.look_up_some.Goals as goal

pub loop-prefix-init : goal.loop-prefix-init
loop-prefix-init g c = record { kept = refl; progress = progress_start _ _ _ _ c.prefix_of-order.ensures _ _; few = omega arith }

pub loop-prefix-smaller : goal.loop-prefix-smaller
loop-prefix-smaller g c =
    let next = rw c.as_ref.ensures.value at c.in-Some.ensures.next in
    rw c.next_in.ensures.kept (fewer_left _ _ _ _ c.prefix_of-order.ensures _ _ next)

pub loop-prefix-preserved : goal.loop-prefix-preserved
loop-prefix-preserved g c =
    let next = rw (c.loop-prefix.invariant.kept, c.as_ref.ensures.value) at c.in-Some.ensures.next in
    record {
      kept = c.next_in.ensures.kept ∙ c.loop-prefix.invariant.kept;
      progress = progress_push _ _ _ _ c.prefix_of-order.ensures _ _ _ _ _ _ _ _ _ c.loop-prefix.invariant.progress next c.restore.ensures (search rules) c.in-Some.ensures.counted;
      few = grind (arith, common_steps);
    }

pub returns-in_default-clause-found : goal.returns-in_default-clause-found
returns-in_default-clause-found g c =
    let none = rw (c.loop-prefix.invariant.kept, c.as_ref.ensures.value) at c.in_default.ensures.next in
    progress_all _ _ _ _ c.prefix_of-order.ensures _ _ _ _ _ c.loop-prefix.invariant.progress none

pub returns-clause-found : goal.returns-clause-found
returns-clause-found g c = progress_some _ _ _ _ c.prefix_of-order.ensures _ _ _ _ _ c.loop-prefix.invariant.progress
