use Rattle.std.proofs.Common.{refl}
use Rattle.std.proofs.lemmas.Result.{IfOk-weaker}
use Rattle.sparql_algebra.specs.Algebra.{graph, translation}
use Rattle.sparql_algebra.specs.Solutions.{solutions}
use Rattle.sparql_algebra.specs.Under.{under}
use Rattle.sparql_solve.specs.Under.{under_name}
use Rattle.sparql_solve.proofs.AskGroupLemmas as say
use Rattle.sparql_solve.proofs.asking.+some.Goals as goal

pub some_in_union-returns-then-is_empty : goal.some_in_union-returns-then-is_empty
some_in_union-returns-then-is_empty g t c =
    say.no_union_says c.args.evaluation.now.scope.variables.now (g.S.Source.contents c.args.evaluation.now.source.now) c.args.graph.now c.args.under.now c.args.groups.now c.is_empty.result
    c.is_empty.ensures c.if-is_empty.true

pub some_in_union-returns-then-branch : goal.some_in_union-returns-then-branch
some_in_union-returns-then-branch g t c ea d l =
    say.union_says c.args.evaluation.now.scope.variables.now (g.S.Source.contents c.args.evaluation.now.source.now) c.args.graph.now c.args.under.now c.args.groups.now c.is_empty.result _
    c.is_empty.ensures c.if-is_empty.false d
    (say.some_here (λ p. under c.args.evaluation.now.scope.variables.now d c.args.graph.now (translation p) c.args.under.now) c.args.groups.now c.loop-group.group-index
    (c.loop-group.invariant ea d l) c.group-item.result c.in_ok-some_in_group.field-0 c.loop-group-test.true c.group-item.is
    (c.in_ok-some_in_group.ensures ea d l) c.if-branch.true)

pub some_in_union-loop-group-preserved : goal.some_in_union-loop-group-preserved
some_in_union-loop-group-preserved g t c ea d l =
    say.none_here (λ p. under c.args.evaluation.now.scope.variables.now d c.args.graph.now (translation p) c.args.under.now) c.args.groups.now c.loop-group.group-index
    (c.loop-group.invariant ea d l) c.group-item.result c.in_ok-some_in_group.field-0 c.loop-group-test.true c.group-item.is
    (c.in_ok-some_in_group.ensures ea d l) c.if-branch.false

pub some_in_union-returns : goal.some_in_union-returns
some_in_union-returns g t c ea d l =
    say.union_says c.args.evaluation.now.scope.variables.now (g.S.Source.contents c.args.evaluation.now.source.now) c.args.graph.now c.args.under.now c.args.groups.now c.is_empty.result _
    c.is_empty.ensures c.if-is_empty.false d
    (say.none_at_all (λ p. under c.args.evaluation.now.scope.variables.now d c.args.graph.now (translation p) c.args.under.now) c.args.groups.now c.loop-group.group-index
    (c.loop-group.invariant ea d l) c.loop-group-test.false)

pub some_in_named-returns-then-not-is_named : goal.some_in_named-returns-then-not-is_named
some_in_named-returns-then-not-is_named g t c =
    say.absent_says c.args.evaluation.now.scope.variables.now (g.S.Source.contents c.args.evaluation.now.source.now) (translation c.args.pattern.now) c.args.name c.args.under.now
    c.is_named.result c.is_named.ensures c.if-not-is_named.true

pub some_in_named-returns : goal.some_in_named-returns
some_in_named-returns g t c =
    IfOk-weaker c.some_in_group.result _ _
    (λ answer h. say.there_says c.args.evaluation.now.scope.variables.now (g.S.Source.contents c.args.evaluation.now.source.now) (translation c.args.pattern.now) c.args.name _ c.args.under.now
    answer c.is_named.result c.is_named.ensures c.if-not-is_named.false refl h)
    c.some_in_group.ensures

pub some_in_each-loop-name-preserved : goal.some_in_each-loop-name-preserved
some_in_each-loop-name-preserved g t c ea d l =
    say.none_here (under_name c.args.evaluation.now.scope.variables.now d c.args.variable.now (translation c.args.pattern.now) c.args.under.now) c.args.names.now
    c.loop-name.name-index (c.loop-name.invariant ea d l) c.name-item.result c.in_ok-some_in_group.field-0 c.loop-name-test.true c.name-item.is
    (say.name_says c.args.evaluation.now.scope.variables.now (g.S.Source.contents c.args.evaluation.now.source.now) c.args.variable.now (translation c.args.pattern.now) c.args.under.now
    c.name-item.result c.in_ok-named.named.bound c.in_ok-named.named.above c.in_ok-named.named.graph c.in_ok-some_in_group.field-0
    c.in_ok-named.ensures.bound c.in_ok-named.ensures.above c.in_ok-named.ensures.graph c.in_ok-some_in_group.ensures ea d l)
    c.if-branch.false

pub some_in_each-returns-then-branch : goal.some_in_each-returns-then-branch
some_in_each-returns-then-branch g t c ea d l =
    say.some_here (under_name c.args.evaluation.now.scope.variables.now d c.args.variable.now (translation c.args.pattern.now) c.args.under.now) c.args.names.now
    c.loop-name.name-index (c.loop-name.invariant ea d l) c.name-item.result c.in_ok-some_in_group.field-0 c.loop-name-test.true c.name-item.is
    (say.name_says c.args.evaluation.now.scope.variables.now (g.S.Source.contents c.args.evaluation.now.source.now) c.args.variable.now (translation c.args.pattern.now) c.args.under.now
    c.name-item.result c.in_ok-named.named.bound c.in_ok-named.named.above c.in_ok-named.named.graph c.in_ok-some_in_group.field-0
    c.in_ok-named.ensures.bound c.in_ok-named.ensures.above c.in_ok-named.ensures.graph c.in_ok-some_in_group.ensures ea d l)
    c.if-branch.true

pub some_in_each-returns : goal.some_in_each-returns
some_in_each-returns g t c ea d l =
    say.none_at_all (under_name c.args.evaluation.now.scope.variables.now d c.args.variable.now (translation c.args.pattern.now) c.args.under.now) c.args.names.now
    c.loop-name.name-index (c.loop-name.invariant ea d l) c.loop-name-test.false

pub some_in_group-returns-in-Union : goal.some_in_group-returns-in-Union
some_in_group-returns-in-Union g t c =
    IfOk-weaker c.some_in_union.result _ _
    (λ answer h. say.lone_union_says c.args.evaluation.now.scope.variables.now (g.S.Source.contents c.args.evaluation.now.source.now) c.args.graph.now c.args.under.now c.args.pattern.now
    c.in-Some.member.now c.in-Union.groups c.as_slice-groups.result.now answer c.in-Some.ensures c.in-Union.is
    c.as_slice-groups.ensures h)
    c.some_in_union.ensures

pub some_in_group-returns-in-Graph : goal.some_in_group-returns-in-Graph
some_in_group-returns-in-Graph g t c =
    IfOk-weaker c.some_in_graph.result _ _
    (λ answer h. say.lone_graph_says c.args.evaluation.now.scope.variables.now (g.S.Source.contents c.args.evaluation.now.source.now) c.args.graph.now c.args.under.now c.args.pattern.now
    c.in-Some.member.now c.in-Graph.name c.in-Graph.inner answer c.in-Some.ensures c.in-Graph.is h)
    c.some_in_graph.ensures

pub some_in_graph-returns-in_ok-names-in-Variable : goal.some_in_graph-returns-in_ok-names-in-Variable
some_in_graph-returns-in_ok-names-in-Variable g t c =
    IfOk-weaker c.some_in_each.result _ _
    (λ answer h. say.variable_says c.args.evaluation.now.scope.variables.now (g.S.Source.contents c.args.evaluation.now.source.now) c.args.name.now c.in-Variable.variable
    (translation c.args.pattern.now) c.args.under.now c.in_ok-names-in-Variable.names.items c.deref.result.now answer c.in-Variable.is
    c.in_ok-names-in-Variable.ensures c.deref.ensures.value h)
    c.some_in_each.ensures

pub some_in_graph-returns-in_ok-rows-in-Variable-2 : goal.some_in_graph-returns-in_ok-rows-in-Variable-2
some_in_graph-returns-in_ok-rows-in-Variable-2 g t c active =
    say.rows_say c.args.evaluation.now.scope.variables.now (g.S.Source.contents c.args.evaluation.now.source.now) c.args.under.now c.in_ok-rows-in-Variable-2.rows.items
    c.as_slice.result.now c.is_empty.result (λ d. solutions c.args.evaluation.now.scope.variables.now d active (graph c.args.name.now (translation c.args.pattern.now)))
    (c.in_ok-rows-in-Variable-2.ensures active) c.as_slice.ensures.value c.is_empty.ensures
