use Rattle.sparql_solve.proofs.ShapeLemmas.{reads_member, reads_group, none_more, none_all, group_unread, groups_unread, basic_unread, union_unread, optional_unread, minus_unread}
use Rattle.sparql_solve.proofs.shapes.+reads.Goals as goal

pub groups_read-loop-group-preserved : goal.groups_read-loop-group-preserved
groups_read-loop-group-preserved t c =
    none_more reads_group c.args.groups.now c.loop-group.group-index c.group-item.result c.loop-group-test.true c.group-item.is
    (c.group_reads.ensures c.if-group_reads.false) c.loop-group.invariant

pub groups_read-returns : goal.groups_read-returns
groups_read-returns t c e =
    groups_unread c.args.groups.now (none_all reads_group c.args.groups.now c.loop-group.group-index c.loop-group-test.false c.loop-group.invariant)

pub group_reads-loop-member-preserved : goal.group_reads-loop-member-preserved
group_reads-loop-member-preserved t c =
    none_more reads_member c.as_slice-members.result.now c.loop-member.member-index c.member-item.result c.loop-member-test.true c.member-item.is
    (c.reads.ensures c.if-reads.false) c.loop-member.invariant

pub group_reads-returns : goal.group_reads-returns
group_reads-returns t c e =
    group_unread c.args.pattern.now c.as_slice-members.result.now c.as_slice-members.ensures
    (none_all reads_member c.as_slice-members.result.now c.loop-member.member-index c.loop-member-test.false c.loop-member.invariant)

pub reads-returns-in-Basic : goal.reads-returns-in-Basic
reads-returns-in-Basic t c e = basic_unread c.args.member.now c.in-Basic.basic c.in-Basic.is (c.has_triples.ensures e)

pub reads-returns-in-Union : goal.reads-returns-in-Union
reads-returns-in-Union t c e =
    union_unread c.args.member.now c.in-Union.groups c.as_slice.result.now c.in-Union.is c.as_slice.ensures (c.groups_read.ensures e)

pub reads-returns-in-Optional : goal.reads-returns-in-Optional
reads-returns-in-Optional t c e = optional_unread c.args.member.now c.in-Optional.pattern c.in-Optional.is (c.group_reads.ensures e)

pub reads-returns-in-Minus : goal.reads-returns-in-Minus
reads-returns-in-Minus t c e = minus_unread c.args.member.now c.in-Minus.pattern c.in-Minus.is (c.group_reads-in-Minus.ensures e)
