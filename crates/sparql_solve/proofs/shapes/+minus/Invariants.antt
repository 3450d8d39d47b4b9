use Rattle.std.proofs.Common.{◌≡◌, true, false, drop, map}
use Rattle.sparql_trees.specs.Visible.{joined, member_names, names_where}
use Rattle.sparql_solve.proofs.shapes.+minus.Given as goal

abbrev pub invariant-one_has_minus-loop-group : goal.invariant-one_has_minus-loop-group
invariant-one_has_minus-loop-group l =
    joined (map (names_where true) (drop l.group-index l.groups)) ≡ joined (map (names_where false) (drop l.group-index l.groups)) →
    joined (map (names_where true) l.groups) ≡ joined (map (names_where false) l.groups)

abbrev pub invariant-has_minus-loop-member : goal.invariant-has_minus-loop-member
invariant-has_minus-loop-member l =
    joined (map (member_names true) (drop l.member-index l.members)) ≡ joined (map (member_names false) (drop l.member-index l.members)) →
    joined (map (member_names true) l.members) ≡ joined (map (member_names false) l.members)
