use Rattle.std.proofs.Common.{◌≡◌, ◌∙◌, ap, sym, subst, rules, Some, List, [], ◌∷◌, ◌++◌, ◌+◌, map, drop}
use Rattle.std.specs.Option.{option_map}
use Rattle.rdf_grammar.specs.Prologue.{Prologue}
use Rattle.rdf_grammar.proofs.CallerLemmas.{next_member}
use Rattle.sparql_drafts.specs.Kept.{Fails, Tells}
use Rattle.sparql_queries.specs.Collected.{collected, collected_behind}
use Rattle.sparql_queries.specs.Expressions.{all, expression_in}
use Rattle.sparql_queries.specs.Groups as spec
use Rattle.sparql_grammar.specs.Proper as proper
use Rattle.sparql_queries.proofs.GroupLemmas.{next_collected, next_fails, group_gives, group_lacks, graph_said, graph_fails, name_fails}
use Rattle.sparql_trees.specs.declared.pattern.Member.{Member}
use Rattle.sparql_trees.specs.declared.pattern.Pattern.{Pattern}
use Rattle.sparql_queries.proofs.group.+group.Goals as goal

pub pattern_of-returns-clause-gives : goal.pattern_of-returns-clause-gives
pattern_of-returns-clause-gives t c =
    let p = c.args.scope.now.prologue in
    let group = c.args.group.now in
    let members : collected (map (spec.member_in p) group.members) c.args.labels.now ≡ Some (c.in_ok-members.members, c.members_of.new.labels) = search rules in
    let filters : Tells (option_map (spec.pattern_with c.in_ok-members.members) (all (map (expression_in c.members_of.new.scope.prologue) group.filters))) c.with_filters.result = search rules in
    group_gives p c.members_of.new.scope.prologue group c.args.labels.now c.members_of.new.labels c.in_ok-members.members c.with_filters.result
    c.in_ok-members.ensures.prologue members filters

pub pattern_of-returns-in_err-members-clause-gives : goal.pattern_of-returns-in_err-members-clause-gives
pattern_of-returns-in_err-members-clause-gives t c =
    let p = c.args.scope.now.prologue in
    let group = c.args.group.now in
    let e = c.in_err-members.field-0.0 in
    let members : Fails (collected (map (spec.member_in p) group.members) c.args.labels.now) e = search rules in
    let fails : Fails (spec.group p group c.args.labels.now) e = group_lacks p group c.args.labels.now e members in
    search rules

pub patterns_of-loop-group-preserved : goal.patterns_of-loop-group-preserved
patterns_of-loop-group-preserved t c =
    let p = c.args.scope.now.prologue in
    let i = c.loop-group.group-index in
    let all = c.args.groups.now in
    let x = c.group-item.result in
    let s = c.loop-group.labels in
    let u = c.pattern_of.new.labels in
    let same : c.loop-group.scope.prologue ≡ p = c.loop-group.invariant.prologue in
    let gives : spec.group p x s ≡ Some (c.in_ok-one.one, u) = subst (λ (q : Prologue). spec.group q x s ≡ Some (c.in_ok-one.one, u)) same c.in_ok-one.ensures.gives in
    let whole = next_member proper.proper_group all i x c.loop-group-test.true c.group-item.is c.loop-group.invariant.proper in
    let pushed : c.push.new.self ≡ c.loop-group.made ++ c.in_ok-one.one ∷ [] = search rules in
    record {
      says = c.loop-group.invariant.says
          ∙ next_collected (spec.group p) all i x c.loop-group.made c.in_ok-one.one s u c.loop-group-test.true c.group-item.is gives
          ∙ ap (λ (made : List Pattern). collected_behind made (map (spec.group p) (drop (i + 1) all)) u) (sym pushed);
      prologue = c.in_ok-one.ensures.prologue ∙ same;
      proper = whole.1;
    }

pub patterns_of-returns-in_err-one-clause-gives : goal.patterns_of-returns-in_err-one-clause-gives
patterns_of-returns-in_err-one-clause-gives t c =
    let p = c.args.scope.now.prologue in
    let i = c.loop-group.group-index in
    let all = c.args.groups.now in
    let x = c.group-item.result in
    let s = c.loop-group.labels in
    let e = c.in_err-one.field-0.0 in
    let same : c.loop-group.scope.prologue ≡ p = c.loop-group.invariant.prologue in
    let one : Fails (spec.group p x s) e = subst (λ (q : Prologue). Fails (spec.group q x s) e) same c.in_err-one.ensures.gives in
    let fails : Fails (collected (map (spec.group p) all) c.args.labels.now) e =
    next_fails (spec.group p) all i x c.loop-group.made s (collected (map (spec.group p) all) c.args.labels.now) e c.loop-group.invariant.says c.loop-group-test.true c.group-item.is one in
    search rules

pub members_of-loop-member-preserved : goal.members_of-loop-member-preserved
members_of-loop-member-preserved t c =
    let p = c.args.scope.now.prologue in
    let i = c.loop-member.member-index in
    let all = c.args.members.now in
    let x = c.member-item.result in
    let s = c.loop-member.labels in
    let u = c.member_of.new.labels in
    let same : c.loop-member.scope.prologue ≡ p = c.loop-member.invariant.prologue in
    let gives : spec.member_in p x s ≡ Some (c.in_ok-one.one, u) = subst (λ (q : Prologue). spec.member_in q x s ≡ Some (c.in_ok-one.one, u)) same c.in_ok-one.ensures.gives in
    let whole = next_member proper.proper_member all i x c.loop-member-test.true c.member-item.is c.loop-member.invariant.proper in
    let pushed : c.push.new.self ≡ c.loop-member.made ++ c.in_ok-one.one ∷ [] = search rules in
    record {
      says = c.loop-member.invariant.says
          ∙ next_collected (spec.member_in p) all i x c.loop-member.made c.in_ok-one.one s u c.loop-member-test.true c.member-item.is gives
          ∙ ap (λ (made : List Member). collected_behind made (map (spec.member_in p) (drop (i + 1) all)) u) (sym pushed);
      prologue = c.in_ok-one.ensures.prologue ∙ same;
      proper = whole.1;
    }

pub members_of-returns-in_err-one-clause-gives : goal.members_of-returns-in_err-one-clause-gives
members_of-returns-in_err-one-clause-gives t c =
    let p = c.args.scope.now.prologue in
    let i = c.loop-member.member-index in
    let all = c.args.members.now in
    let x = c.member-item.result in
    let s = c.loop-member.labels in
    let e = c.in_err-one.field-0.0 in
    let same : c.loop-member.scope.prologue ≡ p = c.loop-member.invariant.prologue in
    let one : Fails (spec.member_in p x s) e = subst (λ (q : Prologue). Fails (spec.member_in q x s) e) same c.in_err-one.ensures.gives in
    let fails : Fails (collected (map (spec.member_in p) all) c.args.labels.now) e =
    next_fails (spec.member_in p) all i x c.loop-member.made s (collected (map (spec.member_in p) all) c.args.labels.now) e c.loop-member.invariant.says c.loop-member-test.true c.member-item.is one in
    search rules

pub member_of-returns-in_ok-pattern-in-Graph-clause-gives : goal.member_of-returns-in_ok-pattern-in-Graph-clause-gives
member_of-returns-in_ok-pattern-in-Graph-clause-gives t c =
    rw c.in-Graph.is
    (graph_said c.args.scope.now.prologue c.named.new.scope.prologue c.in-Graph.name c.in-Graph.group c.args.labels.now c.pattern_of-in-Graph.new.labels c.in_ok-name-in-Graph.name c.in_ok-pattern-in-Graph.pattern
    c.named.ensures.prologue c.in_ok-name-in-Graph.ensures.tells c.in_ok-pattern-in-Graph.ensures.gives)

pub member_of-returns-in_err-name-in-Graph-clause-gives : goal.member_of-returns-in_err-name-in-Graph-clause-gives
member_of-returns-in_err-name-in-Graph-clause-gives t c =
    let p = c.args.scope.now.prologue in
    let e = c.in_err-name-in-Graph.field-0.0 in
    let fails : Fails (spec.member_in p c.args.member.now c.args.labels.now) e =
    rw c.in-Graph.is (name_fails p c.in-Graph.name c.in-Graph.group c.args.labels.now e c.in_err-name-in-Graph.ensures.tells) in
    search rules

pub member_of-returns-in_err-pattern-in-Graph-clause-gives : goal.member_of-returns-in_err-pattern-in-Graph-clause-gives
member_of-returns-in_err-pattern-in-Graph-clause-gives t c =
    let p = c.args.scope.now.prologue in
    let e = c.in_err-pattern-in-Graph.field-0.0 in
    let fails : Fails (spec.member_in p c.args.member.now c.args.labels.now) e =
    rw c.in-Graph.is
    (graph_fails p c.named.new.scope.prologue c.in-Graph.name c.in-Graph.group c.args.labels.now c.in_ok-name-in-Graph.name e
    c.named.ensures.prologue c.in_ok-name-in-Graph.ensures.tells c.in_err-pattern-in-Graph.ensures.gives) in
    search rules
