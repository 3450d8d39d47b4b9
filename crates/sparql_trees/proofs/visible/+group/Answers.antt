use Rattle.std.proofs.Common.{◌∙◌}
use Rattle.sparql_trees.specs.Visible as spec
use Rattle.sparql_trees.proofs.VisibleLemmas.{next_joined}
use Rattle.sparql_trees.proofs.visible.+group.Goals as goal

pub add_groups-loop-group-preserved : goal.add_groups-loop-group-preserved
add_groups-loop-group-preserved t c =
    c.loop-group.invariant ∙ next_joined (spec.names_where c.args.minus) c.args.groups.now c.loop-group.group-index c.group-item.result _ _ c.loop-group-test.true c.group-item.is c.in_ok-add_group.ensures

pub add_members-loop-member-preserved : goal.add_members-loop-member-preserved
add_members-loop-member-preserved t c =
    c.loop-member.invariant ∙ next_joined (spec.member_names c.args.minus) c.args.members.now c.loop-member.member-index c.member-item.result _ _ c.loop-member-test.true c.member-item.is c.in_ok-add_member.ensures
