use Rattle.std.proofs.Common.{◌≡◌, ◌<◌, ◌≤◌, ◌-◌, ◌++◌, List, refl, ap, take, drop, filter, length, arith, sym, ◌∙◌, map, subst}
use Rattle.std.proofs.lemmas.Bool.{eqb-true}
use Rattle.std.proofs.lemmas.List.{take_all, take-append-drop, length-drop}
use Rattle.std.proofs.lemmas.Result.{IfOk-weaker}
use Rattle.rdf_terms.specs.declared.quad.GraphName.TheVariants.{Default, Named}
use Rattle.sparql_trees.specs.declared.pattern.VarOrIri.TheVariants.{Variable}
use Rattle.sparql_algebra.specs.Algebra.{element, filtered, group_of, translation}
use Rattle.sparql_algebra.specs.Under.{under}
use Rattle.sparql_algebra.specs.Solutions.{satisfies}
use Rattle.sparql_values.specs.Mapping.{Mapping, empty_mapping}
use Rattle.sparql_solve.specs.Under.{AreMade, under_name}
use Rattle.sparql_solve.proofs.ApartLemmas as apart
use Rattle.sparql_solve.proofs.FollowLemmas as follow
use Rattle.sparql_solve.proofs.SideLemmas.{done_gives}
use Rattle.sparql_solve.proofs.MemberLemmas.{more_gives}
use Rattle.sparql_solve.proofs.StepLemmas as step
use Rattle.sparql_solve.proofs.OwnLemmas.{nothing_is}
use Rattle.sparql_solve.proofs.evaluator.+follow.Goals as goal

pub group_under-returns : goal.group_under-returns
group_under-returns g t c =
    IfOk-weaker c.filtered_rows.result _ _
    (λ out e. follow.group_follows c.args.evaluation.now.scope.variables.now (g.S.Source.contents c.args.evaluation.now.source.now) c.args.graph.now c.args.under.now c.args.pattern.now
    c.as_slice-members.result.now c.as_slice-filters.result.now c.in_ok-rows.rows.items out.items c.as_slice-members.ensures c.as_slice-filters.ensures
    c.in_ok-rows.ensures e)
    c.filtered_rows.ensures

pub members_under-returns : goal.members_under-returns
members_under-returns g t c =
    IfOk-weaker c.first_under.result _ _
    (λ out h. apart.all_members c.args.evaluation.now.scope.variables.now (g.S.Source.contents c.args.evaluation.now.source.now) c.args.graph.now c.args.under.now c.args.members.now
    (length c.args.members.now) out.items refl h)
    c.first_under.ensures

pub first_under-loop-place-init : goal.first_under-loop-place-init
first_under-loop-place-init g t c =
    follow.unit_follows c.args.evaluation.now.scope.variables.now (g.S.Source.contents c.args.evaluation.now.source.now) c.args.graph.now c.args.under.now c.in_ok-rows.rows.items c.in_ok-rows.ensures

pub first_under-loop-place-preserved : goal.first_under-loop-place-preserved
first_under-loop-place-preserved g t c =
    follow.members_follow c.args.evaluation.now.scope.variables.now (g.S.Source.contents c.args.evaluation.now.source.now) c.args.graph.now c.args.under.now c.args.members.now
    c.loop-place.place c.index-members-place.result c.loop-place.rows.items c.in_ok-rows-2.rows.items (omega (arith, c.requires)) c.index-members-place.is
    c.loop-place.invariant c.in_ok-rows-2.ensures

pub first_under-returns : goal.first_under-returns
first_under-returns g t c =
    apart.so_many c.args.evaluation.now.scope.variables.now (g.S.Source.contents c.args.evaluation.now.source.now) c.args.graph.now c.args.under.now c.args.members.now c.loop-place.place
    c.args.many c.loop-place.rows.items (omega arith) c.loop-place.invariant

pub rows_after-returns-then-is_empty : goal.rows_after-returns-then-is_empty
rows_after-returns-then-is_empty g t c =
    step.begins_all c.args.evaluation.now.scope.variables.now (g.S.Source.contents c.args.evaluation.now.source.now) c.args.graph.now c.args.under.now (element c.args.member.now)
    c.args.rows.items c.in_ok-begun.begun.rows.items c.in_ok-begun.begun.rest.items
    (step.none_in _ c.in_ok-begun.begun.rest.items (sym c.is_empty.ensures ∙ c.if-is_empty.true) (omega (arith, c.in_ok-begun.begun.rest.ok.0)))
    c.in_ok-begun.ensures

pub rows_after-returns : goal.rows_after-returns
rows_after-returns g t c =
    IfOk-weaker c.rows_and.result _ _
    (λ out e. step.begins_more c.args.evaluation.now.scope.variables.now (g.S.Source.contents c.args.evaluation.now.source.now) c.args.graph.now c.args.under.now (element c.args.member.now)
    c.args.rows.items c.in_ok-begun.begun.rows.items c.in_ok-begun.begun.rest.items c.in_ok-more.more.items out.items e
    c.in_ok-begun.ensures c.in_ok-more.ensures)
    c.rows_and.ensures

pub rows_left-returns-then-is_once : goal.rows_left-returns-then-is_once
rows_left-returns-then-is_once g t c =
    IfOk-weaker c.made_at_once.result _ _
    (λ out h. subst (λ (rows : List Mapping). AreMade c.args.evaluation.now.scope.variables.now (g.S.Source.contents c.args.evaluation.now.source.now)
    c.args.graph.now c.args.under.now (element c.args.member.now) rows out.items) c.deref-then-is_once.ensures.value h)
    c.made_at_once.ensures

pub rows_left-returns-then-is_first : goal.rows_left-returns-then-is_first
rows_left-returns-then-is_first g t c =
    IfOk-weaker c.member_under.result _ _
    (λ out h. follow.first_follows c.args.evaluation.now.scope.variables.now (g.S.Source.contents c.args.evaluation.now.source.now) c.args.graph.now c.args.under.now
    (element c.args.member.now) c.args.rows.items c.deref-2.result.now out.items c.is_first.result c.deref-2.ensures.value c.is_first.ensures
    c.if-is_first.true h)
    c.member_under.ensures

pub rows_gathered-returns : goal.rows_gathered-returns
rows_gathered-returns g t c =
    IfOk-weaker c.with_the_rest.result _ _
    (λ out h. follow.gathered_follow c.args.evaluation.now.scope.variables.now (g.S.Source.contents c.args.evaluation.now.source.now) c.args.graph.now c.args.under.now
    (element c.args.member.now) c.args.rows.items c.gather.new.rows.items c.deref.result.now c.deref-2.result.now
    c.in_ok-made.made.rows.items out.items c.in_ok-made.made.done c.in_ok-gather.ensures c.deref.ensures.value c.deref-2.ensures.value
    c.in_ok-made.ensures h)
    c.with_the_rest.ensures

pub rows_followed-loop-done-init : goal.rows_followed-loop-done-init
rows_followed-loop-done-init g t c = record {
  made = follow.made_nothing c.args.evaluation.now.scope.variables.now (g.S.Source.contents c.args.evaluation.now.source.now) c.args.graph.now c.args.under.now (element c.args.member.now)
      c.new-out.result.items c.new-out.ensures.items;
  within = omega arith;
}

pub rows_followed-loop-done-preserved : goal.rows_followed-loop-done-preserved
rows_followed-loop-done-preserved g t c =
    let vs = c.args.evaluation.now.scope.variables.now in
    let s = g.S.Source.contents c.args.evaluation.now.source.now in
    let a = c.args.under.now in
    let k = element c.args.member.now in
    let rows = c.args.rows.now in
    let done = c.loop-done.done in
    let len = c.in_ok-made.made.done in
    let left : List Mapping = drop done rows in
    let rest : List Mapping = take (length rows - done) left in
    let whole : rest ≡ left = take_all (length rows - done) left (omega (arith, length-drop done rows)) in
    let long : length left ≡ length rows - done = length-drop done rows in
    let same : length rest ≡ length left = ap length whole in
    let less : done < length rows = c.loop-done-test.true in
    let within : len ≤ length rest = c.in_ok-made.ensures.within in
    record {
      made = follow.made_more vs s c.args.graph.now a k rows (take len rest) done len c.loop-done.out.items c.in_ok-made.made.rows.items c.append.new.self.items
          (ap (take len) whole) c.in_ok-append.ensures.items c.loop-done.invariant.made
          (follow.made_served vs s c.args.graph.now a k c.args.flags.now c.in_ok-found.found.columns c.index-rest-0.result rest (take len rest)
          c.in_ok-found.found.rows.items c.in_ok-found.found.rows.items c.in_ok-made.made.rows.items len c.requires c.in_ok-found.ensures.columns refl
          c.in_ok-made.ensures.some (omega (arith, same, long, less)) c.index-rest-0.is c.in_ok-made.ensures.served c.in_ok-found.ensures.rows
          refl c.in_ok-made.ensures.made);
      within = omega (arith, same, long, less, within);
    }

pub found_for-returns-clause-rows : goal.found_for-returns-clause-rows
found_for-returns-clause-rows g t c =
    follow.asked_follows c.args.evaluation.now.scope.variables.now (g.S.Source.contents c.args.evaluation.now.source.now) c.args.graph.now c.args.under.now (element c.args.member.now)
    c.in_ok-columns.columns c.in_ok-asked.asked c.in_ok-rows.rows.items c.in_ok-asked.ensures c.in_ok-rows.ensures

pub with_the_rest-returns-then-rows-made : goal.with_the_rest-returns-then-rows-made
with_the_rest-returns-then-rows-made g t c h =
    follow.made_all c.args.evaluation.now.scope.variables.now (g.S.Source.contents c.args.evaluation.now.source.now) c.args.graph.now c.args.under.now (element c.args.member.now)
    c.args.rows.now c.args.made.done c.args.made.rows.items c.if-rows-made.true h

pub with_the_rest-returns : goal.with_the_rest-returns
with_the_rest-returns g t c =
    let rows = c.args.rows.now in
    let n = c.args.made.done in
    let rest = take (length rows - n) (drop n rows) in
    let whole : rest ≡ drop n rows = take_all (length rows - n) (drop n rows) (omega (arith, length-drop n rows)) in
    IfOk-weaker c.rows_and.result _ _
    (λ out e h. follow.made_append c.args.evaluation.now.scope.variables.now (g.S.Source.contents c.args.evaluation.now.source.now) c.args.graph.now c.args.under.now (element c.args.member.now)
    (take n rows) rest rows c.args.made.rows.items c.in_ok-more.more.items out.items
    (sym (ap (λ (xs : List Mapping). take n rows ++ xs) whole ∙ take-append-drop n rows)) e h c.in_ok-more.ensures)
    c.rows_and.ensures

pub made_at_once-returns : goal.made_at_once-returns
made_at_once-returns g t c =
    IfOk-weaker c.rows_beside.result _ _
    (λ out e. follow.made_beside c.args.evaluation.now.scope.variables.now (g.S.Source.contents c.args.evaluation.now.source.now) c.args.graph.now c.args.under.now (element c.args.member.now)
    c.args.rows.now (empty_mapping c.args.evaluation.now.scope.variables.now) c.in_ok-asked.asked c.in_ok-found.found.items c.deref.result.now out.items
    (nothing_is c.args.evaluation.now.scope.variables.now (empty_mapping c.args.evaluation.now.scope.variables.now) refl) c.in_ok-asked.ensures c.in_ok-found.ensures c.deref.ensures.value e)
    c.rows_beside.ensures

pub member_under-returns-in-Basic : goal.member_under-returns-in-Basic
member_under-returns-in-Basic g t c =
    IfOk-weaker c.basic_under.result _ _
    (λ out h. follow.basic_member c.args.evaluation.now.scope.variables.now (g.S.Source.contents c.args.evaluation.now.source.now) c.args.graph.now c.args.under.now c.args.member.now
    c.in-Basic.basic out.items c.in-Basic.is h)
    c.basic_under.ensures

pub member_under-returns-in-Union : goal.member_under-returns-in-Union
member_under-returns-in-Union g t c =
    IfOk-weaker c.union_under.result _ _
    (λ out h. follow.union_member c.args.evaluation.now.scope.variables.now (g.S.Source.contents c.args.evaluation.now.source.now) c.args.graph.now c.args.under.now c.args.member.now
    c.in-Union.groups c.as_slice-groups.result.now out.items c.in-Union.is c.as_slice-groups.ensures h)
    c.union_under.ensures

pub member_under-returns-in-Optional : goal.member_under-returns-in-Optional
member_under-returns-in-Optional g t c =
    IfOk-weaker c.members_under.result _ _
    (λ out h. follow.optional_member c.args.evaluation.now.scope.variables.now (g.S.Source.contents c.args.evaluation.now.source.now) c.args.graph.now c.args.under.now c.args.member.now
    c.in-Optional.pattern c.as_slice-members.result.now out.items c.in-Optional.is c.as_slice-members.ensures h)
    c.members_under.ensures

pub member_under-returns-in-Minus : goal.member_under-returns-in-Minus
member_under-returns-in-Minus g t c =
    IfOk-weaker c.group_under.result _ _
    (λ out h. follow.minus_member c.args.evaluation.now.scope.variables.now (g.S.Source.contents c.args.evaluation.now.source.now) c.args.graph.now c.args.under.now c.args.member.now
    c.in-Minus.pattern out.items c.in-Minus.is h)
    c.group_under.ensures

pub member_under-returns-in-Graph : goal.member_under-returns-in-Graph
member_under-returns-in-Graph g t c =
    IfOk-weaker c.graph_under.result _ _
    (λ out h. follow.graph_member c.args.evaluation.now.scope.variables.now (g.S.Source.contents c.args.evaluation.now.source.now) c.args.graph.now c.args.under.now c.args.member.now
    c.in-Graph.name c.in-Graph.pattern out.items c.in-Graph.is h)
    c.graph_under.ensures

pub union_under-returns-then-is_empty : goal.union_under-returns-then-is_empty
union_under-returns-then-is_empty g t c =
    IfOk-weaker c.unit_rows.result _ _
    (λ out h. follow.no_union c.args.evaluation.now.scope.variables.now (g.S.Source.contents c.args.evaluation.now.source.now) c.args.graph.now c.args.under.now c.args.groups.now out.items
    c.is_empty.result c.is_empty.ensures c.if-is_empty.true h)
    c.unit_rows.ensures

pub union_under-loop-group-preserved : goal.union_under-loop-group-preserved
union_under-loop-group-preserved g t c ea =
    more_gives (g.S.Source.contents c.args.evaluation.now.source.now) (λ d p. under c.args.evaluation.now.scope.variables.now d c.args.graph.now (translation p) c.args.under.now)
    c.args.groups.now c.loop-group.group-index c.group-item.result c.loop-group.out.items c.in_ok-found.found.items c.append.new.self.items
    c.loop-group-test.true c.group-item.is (c.loop-group.invariant ea) (c.in_ok-found.ensures ea) c.in_ok-append.ensures.items

pub union_under-returns : goal.union_under-returns
union_under-returns g t c ea =
    follow.union_follows c.args.evaluation.now.scope.variables.now (g.S.Source.contents c.args.evaluation.now.source.now) c.args.graph.now c.args.under.now c.args.groups.now
    c.loop-group.out.items c.is_empty.result c.is_empty.ensures c.if-is_empty.false
    (done_gives (g.S.Source.contents c.args.evaluation.now.source.now) (λ d p. under c.args.evaluation.now.scope.variables.now d c.args.graph.now (translation p) c.args.under.now)
    c.args.groups.now c.loop-group.group-index c.loop-group.out.items c.loop-group-test.false (c.loop-group.invariant ea))

pub graph_under-returns-then-group_reads : goal.graph_under-returns-then-group_reads
graph_under-returns-then-group_reads g t c =
    IfOk-weaker c.reading_under.result _ _
    (λ out h. apart.named_so c.args.evaluation.now.scope.variables.now (g.S.Source.contents c.args.evaluation.now.source.now) c.args.name.now c.in-Variable.variable c.args.pattern.now
    c.args.under.now out.items c.in-Variable.is h)
    c.reading_under.ensures

pub graph_under-returns-else-group_reads : goal.graph_under-returns-else-group_reads
graph_under-returns-else-group_reads g t c =
    IfOk-weaker c.once_under.result _ _
    (λ out h. apart.named_so c.args.evaluation.now.scope.variables.now (g.S.Source.contents c.args.evaluation.now.source.now) c.args.name.now c.in-Variable.variable c.args.pattern.now
    c.args.under.now out.items c.in-Variable.is h)
    c.once_under.ensures

pub once_under-returns : goal.once_under-returns
once_under-returns g t c =
    IfOk-weaker c.rows_of_names.result _ _
    (λ out e. follow.once_follows c.args.evaluation.now.scope.variables.now (g.S.Source.contents c.args.evaluation.now.source.now) (Variable c.args.variable.now) c.args.variable.now
    (translation c.args.pattern.now) c.args.under.now Default c.in_ok-names.names.items c.deref.result.now
    c.in_ok-rows.rows.items c.deref-2.result.now out.items refl c.in_ok-names.ensures
    c.deref.ensures.value c.requires c.in_ok-rows.ensures c.deref-2.ensures.value e)
    c.rows_of_names.ensures

pub named_under-returns : goal.named_under-returns
named_under-returns g t c =
    IfOk-weaker c.group_under.result _ _
    (λ out h. follow.there_follows c.args.evaluation.now.scope.variables.now (g.S.Source.contents c.args.evaluation.now.source.now) (translation c.args.pattern.now) c.args.name
    (Named c.args.name) c.args.under.now out.items c.is_named.result c.is_named.ensures c.if-not-is_named.false refl h)
    c.group_under.ensures

pub reading_under-returns-then-not-is_empty : goal.reading_under-returns-then-not-is_empty
reading_under-returns-then-not-is_empty g t c =
    IfOk-weaker c.each_under.result _ _
    (λ out r. apart.each_follows c.args.evaluation.now.scope.variables.now (g.S.Source.contents c.args.evaluation.now.source.now) c.args.variable.now c.args.pattern.now c.args.under.now
    c.in_ok-names.names.items c.deref.result.now c.as_slice-members.result.now (length c.as_slice-members.result.now) c.as_slice-filters.result.now
    out.items refl c.as_slice-members.ensures
    c.as_slice-filters.ensures c.in_ok-names.ensures c.deref.ensures.value r)
    c.each_under.ensures

pub reading_under-returns : goal.reading_under-returns
reading_under-returns g t c =
    let vs = c.args.evaluation.now.scope.variables.now in
    let s = g.S.Source.contents c.args.evaluation.now.source.now in
    let ms = c.as_slice-members.result.now in
    let n = c.before_apart-first.result in
    IfOk-weaker c.apart_under.result _ _
    (λ out h. apart.apart_follows vs s c.args.variable.now c.args.pattern.now c.args.under.now c.in_ok-names.names.items c.deref-2.result.now ms (take n ms)
    c.as_slice-filters.result.now n Default c.in_ok-rows.rows.items out.items c.as_slice-members.ensures c.as_slice-filters.ensures
    (eqb-true (length c.as_slice-filters.result.now) 0 (sym c.is_empty.ensures ∙ c.if-not-is_empty.false)) refl c.in_ok-names.ensures
    c.deref-2.ensures.value c.before_apart-first.ensures.apart c.in_ok-rows.ensures h)
    c.apart_under.ensures

pub apart_under-loop-place-init : goal.apart_under-loop-place-init
apart_under-loop-place-init g t c d l ea w =
    apart.follows_all c.args.evaluation.now.scope.variables.now (g.S.Source.contents c.args.evaluation.now.source.now) Default c.args.under.now d
    (drop c.args.first c.args.members.now) c.args.rows.items w

pub apart_under-loop-place-preserved : goal.apart_under-loop-place-preserved
apart_under-loop-place-preserved g t c d l ea w =
    apart.follows_next c.args.evaluation.now.scope.variables.now (g.S.Source.contents c.args.evaluation.now.source.now) Default c.args.under.now
    (drop c.args.first c.args.members.now) c.args.members.now c.loop-place.place c.index-members-place.result
    c.args.rows.items c.loop-place.rows.items c.in_ok-rows.rows.items (omega arith) c.index-members-place.is c.in_ok-rows.ensures d l ea
    (c.loop-place.invariant d l ea w)

pub apart_under-returns : goal.apart_under-returns
apart_under-returns g t c d l ea w =
    let last : length c.args.members.now ≤ c.loop-place.place = omega (arith, c.requires) in
    apart.all_followed c.args.evaluation.now.scope.variables.now (g.S.Source.contents c.args.evaluation.now.source.now) Default c.args.under.now
    (drop c.args.first c.args.members.now) c.args.members.now c.loop-place.place c.args.rows.items c.loop-place.rows.items last d
    (c.loop-place.invariant d l ea w)

pub name_under-returns : goal.name_under-returns
name_under-returns g t c =
    let vs = c.args.evaluation.now.scope.variables.now in
    let s = g.S.Source.contents c.args.evaluation.now.source.now in
    let F = c.args.filters.now in
    let ms = take c.args.many c.args.members.now in
    let named = c.in_ok-named.named in
    let passed = filter (satisfies vs F) c.in_ok-found.found.items in
    IfOk-weaker c.passed_with.result _ _
    (λ out e. follow.name_follows vs s c.args.variable.now (filtered F (group_of (map element ms))) c.args.under.now c.args.name.now named.bound named.above
    named.graph passed passed out.items c.in_ok-named.ensures.bound c.in_ok-named.ensures.above c.in_ok-named.ensures.graph
    (apart.filtered_group vs s named.graph named.above ms F c.in_ok-found.found.items passed c.in_ok-found.ensures refl) refl e)
    c.passed_with.ensures

pub each_under-loop-name-preserved : goal.each_under-loop-name-preserved
each_under-loop-name-preserved g t c ea =
    let A = filtered c.args.filters.now (group_of (map element (take c.args.many c.args.members.now))) in
    more_gives (g.S.Source.contents c.args.evaluation.now.source.now) (λ d n. under_name c.args.evaluation.now.scope.variables.now d c.args.variable.now A c.args.under.now n)
    c.args.names.now c.loop-name.name-index c.name-item.result c.loop-name.out.items c.in_ok-made.made.items c.append.new.self.items
    c.loop-name-test.true c.name-item.is (c.loop-name.invariant ea) (c.in_ok-made.ensures ea) c.in_ok-append.ensures.items

pub each_under-returns : goal.each_under-returns
each_under-returns g t c ea =
    done_gives (g.S.Source.contents c.args.evaluation.now.source.now)
    (λ d n. under_name c.args.evaluation.now.scope.variables.now d c.args.variable.now (filtered c.args.filters.now (group_of (map element (take c.args.many c.args.members.now)))) c.args.under.now n)
    c.args.names.now c.loop-name.name-index c.loop-name.out.items c.loop-name-test.false (c.loop-name.invariant ea)
