use Rattle.std.proofs.Common.{◌≡◌, false, drop}
use Rattle.std.specs.List.{list_any}
use Rattle.sparql_solve.proofs.ShapeLemmas.{reads_member, reads_group}
use Rattle.sparql_solve.proofs.shapes.+reads.Given as goal

abbrev pub invariant-groups_read-loop-group : goal.invariant-groups_read-loop-group
invariant-groups_read-loop-group l = list_any reads_group (drop l.group-index l.groups) ≡ false → list_any reads_group l.groups ≡ false

abbrev pub invariant-group_reads-loop-member : goal.invariant-group_reads-loop-member
invariant-group_reads-loop-member l = list_any reads_member (drop l.member-index l.members) ≡ false → list_any reads_member l.members ≡ false
