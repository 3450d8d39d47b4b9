use Rattle.std.proofs.Common.{ap, ◌∙◌}
use Rattle.sparql_solve.proofs.PartLemmas.{all_rows}
use Rattle.sparql_solve.proofs.MinusLemmas.{group_left, all_groups_left}
use Rattle.sparql_solve.proofs.minus.minus.Goals as goal

pub loop-group-preserved : goal.loop-group-preserved
loop-group-preserved c =
    group_left c.deref-group-items.result.now c.loop-group.group-index c.group-item.result c.in_ok-others.others.items c.as_slice-in-loop-group.result.now
    c.in_ok-parts.parts.items c.as_slice-in-loop-group-2.result.now c.loop-group.out.items c.append_left.new.out.items c.loop-group-test.true
    c.group-item.is c.as_slice-in-loop-group.ensures.value c.as_slice-in-loop-group-2.ensures.value c.in_ok-parts.ensures c.loop-group.invariant
    c.in_ok-append_left.ensures

pub returns : goal.returns
returns c =
    all_groups_left c.args.left.now c.args.right.now c.in_ok-left.left.items c.in_ok-right.right.items c.as_slice.result.now c.as_slice-2.result.now
    c.deref-group-items.result.now c.in_ok-others.others.items c.loop-group.group-index c.loop-group.out.items c.in_ok-left.ensures c.in_ok-right.ensures
    c.as_slice.ensures.value c.as_slice-2.ensures.value (ap all_rows c.deref-group-items.ensures.value ∙ c.in_ok-groups.ensures) c.in_ok-others.ensures c.loop-group-test.false c.loop-group.invariant
