use Rattle.std.proofs.Common.{true, false}
use Rattle.sparql_trees.specs.Visible.{member_names, names_where}
use Rattle.sparql_solve.proofs.NamedLemmas.{same_more, same_all, group_alike, basic_alike, union_alike}
use Rattle.sparql_solve.proofs.shapes.+minus.Goals as goal

pub one_has_minus-loop-group-preserved : goal.one_has_minus-loop-group-preserved
one_has_minus-loop-group-preserved t c =
    same_more (names_where true) (names_where false) c.args.groups.now c.loop-group.group-index c.group-item.result c.loop-group-test.true c.group-item.is
    (c.has_minus.ensures c.if-has_minus.false) c.loop-group.invariant

pub one_has_minus-returns : goal.one_has_minus-returns
one_has_minus-returns t c e =
    same_all (names_where true) (names_where false) c.args.groups.now c.loop-group.group-index c.loop-group-test.false c.loop-group.invariant

pub has_minus-loop-member-preserved : goal.has_minus-loop-member-preserved
has_minus-loop-member-preserved t c =
    same_more (member_names true) (member_names false) c.as_slice-members.result.now c.loop-member.member-index c.member-item.result c.loop-member-test.true
    c.member-item.is (c.holds_minus.ensures c.if-holds_minus.false) c.loop-member.invariant

pub has_minus-returns : goal.has_minus-returns
has_minus-returns t c e =
    group_alike c.args.pattern.now c.as_slice-members.result.now c.as_slice-members.ensures
    (same_all (member_names true) (member_names false) c.as_slice-members.result.now c.loop-member.member-index c.loop-member-test.false
    c.loop-member.invariant)

pub holds_minus-returns-in-Basic : goal.holds_minus-returns-in-Basic
holds_minus-returns-in-Basic t c e = basic_alike c.args.member.now _ c.in-Basic.is

pub holds_minus-returns-in-Union : goal.holds_minus-returns-in-Union
holds_minus-returns-in-Union t c e =
    union_alike c.args.member.now c.in-Union.groups c.as_slice.result.now c.in-Union.is c.as_slice.ensures (c.one_has_minus.ensures e)
