use Rattle.std.proofs.Common.{List, ap, sym, ◌∙◌}
use Rattle.std.specs.List.{flat_map, sum_by}
use Rattle.std.proofs.lemmas.Result.{IfOk-weaker}
use Rattle.sparql_algebra.specs.Algebra.{Element, element}
use Rattle.sparql_trees.specs.declared.expression.Expression.{Expression}
use Rattle.sparql_algebra.specs.Solutions.{left_joins, merges, satisfies}
use Rattle.sparql_algebra.proofs.CallerLemmas.{element-Minus, element-Optional}
use Rattle.sparql_solve.specs.Under.{kept, met}
use Rattle.sparql_solve.proofs.MinusLemmas.{all_left}
use Rattle.sparql_solve.proofs.sides.joined_moved.Goals as goal

pub returns-in-Optional : goal.returns-in-Optional
returns-in-Optional c =
    let vs = c.args.scope.now.variables.now in
    let rows = c.args.rows.items in
    let found = c.args.found.now in
    IfOk-weaker c.left_join_moved.result _ _
    (λ out h f. h f ∙ ap (λ (F : List Expression). sum_by f (left_joins rows found (satisfies vs F))) c.as_slice-conditions.ensures
    ∙ ap (λ (k : Element). sum_by f (flat_map (λ x. kept vs k x (merges (met k x found) x)) rows))
    (sym (ap element c.in-Optional.is ∙ element-Optional c.in-Optional.pattern)))
    c.left_join_moved.ensures

pub returns-in-Minus : goal.returns-in-Minus
returns-in-Minus c =
    let vs = c.args.scope.now.variables.now in
    let rows = c.args.rows.items in
    let found = c.args.found.now in
    IfOk-weaker c.minus_moved.result _ _
    (λ out h f. h f ∙ ap (sum_by f) (sym (all_left found rows))
    ∙ ap (λ (k : Element). sum_by f (flat_map (λ x. kept vs k x (merges (met k x found) x)) rows))
    (sym (ap element c.in-Minus.is ∙ element-Minus _)))
    c.minus_moved.ensures
