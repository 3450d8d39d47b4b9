use Rattle.std.proofs.Common.{◌≡◌, map, drop, IsTrue}
use Rattle.std.specs.List.{list_all}
use Rattle.sparql_grammar.specs.Proper.{holds}
use Rattle.sparql_queries.specs.Collected.{collected, collected_behind}
use Rattle.sparql_queries.specs.Groups as spec
use Rattle.sparql_grammar.specs.Proper as proper
use Rattle.sparql_queries.proofs.group.+group.Given as goal

abbrev pub invariant-patterns_of-loop-group : goal.invariant-patterns_of-loop-group
invariant-patterns_of-loop-group l =
    let f = spec.group l.initial.scope.prologue in
    record {
      says : collected (map f l.groups) l.initial.labels ≡ collected_behind l.made (map f (drop l.group-index l.groups)) l.labels;
      prologue : l.scope.prologue ≡ l.initial.scope.prologue;
      proper : IsTrue (list_all holds (map proper.proper_group (drop l.group-index l.groups)));
    }

abbrev pub invariant-members_of-loop-member : goal.invariant-members_of-loop-member
invariant-members_of-loop-member l =
    let f = spec.member_in l.initial.scope.prologue in
    record {
      says : collected (map f l.members) l.initial.labels ≡ collected_behind l.made (map f (drop l.member-index l.members)) l.labels;
      prologue : l.scope.prologue ≡ l.initial.scope.prologue;
      proper : IsTrue (list_all holds (map proper.proper_member (drop l.member-index l.members)));
    }
