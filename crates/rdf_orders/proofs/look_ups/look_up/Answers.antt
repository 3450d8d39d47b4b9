use Rattle.std.proofs.Common.{arith, refl, ◌∙◌, rules}
use Rattle.std.proofs.lemmas.Grind.{common_steps}
use Rattle.rdf_orders.proofs.LookUpLemmas.{progress_start, progress_push, progress_found, fewer_left}
use Rattle.rdf_orders.proofs.look_ups.look_up.Goals as goal

pub loop-key-init : goal.loop-key-init
loop-key-init g c = record { kept = refl; progress = progress_start _ _ _ _ c.prefix_of-order.ensures _ _ }

pub loop-key-smaller : goal.loop-key-smaller
loop-key-smaller g c =
    let next = rw c.as_ref.ensures.value at c.in-Some.ensures.next in
    rw c.next_in.ensures.kept (fewer_left _ _ _ _ c.prefix_of-order.ensures _ _ next)

pub loop-key-preserved : goal.loop-key-preserved
loop-key-preserved g c =
    let next = rw (c.loop-key.invariant.kept, c.as_ref.ensures.value) at c.in-Some.ensures.next in
    record {
      kept = c.next_in.ensures.kept ∙ c.loop-key.invariant.kept;
      progress = progress_push _ _ _ _ c.prefix_of-order.ensures _ _ _ _ _ _ _ _ _ c.loop-key.invariant.progress next c.restore.ensures (search rules) c.in-Some.ensures.counted;
    }

pub returns-clause-found : goal.returns-clause-found
returns-clause-found g c =
    let none = rw (c.loop-key.invariant.kept, c.as_ref.ensures.value) at c.in_default.ensures.next in
    progress_found _ _ _ _ c.prefix_of-order.ensures _ _ _ _ _ c.loop-key.invariant.progress none

pub returns-clause-counted : goal.returns-clause-counted
returns-clause-counted g c = grind (arith, common_steps)

pub returns-in_err-or_truncate-clause-err : goal.returns-in_err-or_truncate-clause-err
returns-in_err-or_truncate-clause-err g c = grind (arith, common_steps)
