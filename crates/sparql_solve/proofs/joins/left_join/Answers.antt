use Rattle.std.proofs.Common.{ap, ◌∙◌}
use Rattle.sparql_algebra.specs.Solutions.{satisfies}
use Rattle.sparql_solve.proofs.PartLemmas.{all_rows, group_left_joined, all_left_joined}
use Rattle.sparql_solve.proofs.joins.left_join.Goals as goal

pub loop-group-preserved : goal.loop-group-preserved
loop-group-preserved c =
    group_left_joined c.deref-group-items.result.now c.loop-group.group-index c.group-item.result c.in_ok-others.others.items c.as_slice-in-loop-group.result.now
    c.in_ok-parts.parts.items c.as_slice-parts.result.now c.loop-group.out.items c.append_left_joins.new.out.items c.loop-group-test.true
    c.group-item.is c.as_slice-in-loop-group.ensures.value c.as_slice-parts.ensures.value c.in_ok-parts.ensures (satisfies c.args.scope.now.variables.now c.args.filters.now) c.loop-group.invariant
    c.in_ok-append_left_joins.ensures

pub returns : goal.returns
returns c =
    all_left_joined c.args.left.now c.args.right.now c.in_ok-left.left.items c.in_ok-right.right.items c.as_slice.result.now c.as_slice-2.result.now
    c.deref-group-items.result.now c.in_ok-others.others.items c.loop-group.group-index c.loop-group.out.items c.in_ok-left.ensures c.in_ok-right.ensures
    c.as_slice.ensures.value c.as_slice-2.ensures.value (ap all_rows c.deref-group-items.ensures.value ∙ c.in_ok-groups.ensures) c.in_ok-others.ensures c.loop-group-test.false (satisfies c.args.scope.now.variables.now c.args.filters.now) c.loop-group.invariant
