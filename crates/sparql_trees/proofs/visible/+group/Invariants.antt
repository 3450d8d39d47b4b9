use Rattle.std.proofs.Common.{◌≡◌, drop, map}
use Rattle.sparql_trees.specs.Visible as spec
use Rattle.sparql_trees.proofs.visible.+group.Given as goal

abbrev pub invariant-add_members-loop-member : goal.invariant-add_members-loop-member
invariant-add_members-loop-member l =
    spec.with_names l.initial.names.keys (spec.joined (map (spec.member_names l.minus) l.members))
    ≡ spec.with_names l.names.keys (spec.joined (map (spec.member_names l.minus) (drop l.member-index l.members)))

abbrev pub invariant-add_groups-loop-group : goal.invariant-add_groups-loop-group
invariant-add_groups-loop-group l =
    spec.with_names l.initial.names.keys (spec.joined (map (spec.names_where l.minus) l.groups))
    ≡ spec.with_names l.names.keys (spec.joined (map (spec.names_where l.minus) (drop l.group-index l.groups)))
