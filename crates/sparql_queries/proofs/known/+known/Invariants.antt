use Rattle.std.proofs.Common.{◌≡◌, map, drop}
use Rattle.std.specs.List.{list_all}
use Rattle.sparql_grammar.specs.Proper.{holds}
use Rattle.sparql_queries.specs.Known as spec
use Rattle.sparql_queries.proofs.known.+known.Given as goal

abbrev pub invariant-knows_groups-loop-group : goal.invariant-knows_groups-loop-group
invariant-knows_groups-loop-group l =
    let f = spec.known_group l.declared.keys in
    list_all holds (map f l.groups) ≡ list_all holds (map f (drop l.group-index l.groups))

abbrev pub invariant-knows_members-loop-member : goal.invariant-knows_members-loop-member
invariant-knows_members-loop-member l =
    let f = spec.known_member l.declared.keys in
    list_all holds (map f l.members) ≡ list_all holds (map f (drop l.member-index l.members))
