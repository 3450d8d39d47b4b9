use Rattle.std.proofs.Common.{List, ◌++◌, filter, ap, ◌∙◌}
use Rattle.std.specs.List.{flat_map, sum_by}
use Rattle.std.proofs.lemmas.Result.{IfOk-weaker}
use Rattle.sparql_values.specs.Mapping.{Mapping}
use Rattle.sparql_algebra.specs.Solutions.{left_joins, or_alone, satisfies}
use Rattle.sparql_solve.specs.Parts.{merges_in}
use Rattle.sparql_solve.proofs.KeyLemmas.{rows_of}
use Rattle.sparql_solve.proofs.PartLemmas.{moved_left_joined}
use Rattle.sparql_solve.proofs.joins.left_join_moved.Goals as goal

pub returns-then-not-is_one_part : goal.returns-then-not-is_one_part
returns-then-not-is_one_part c =
    IfOk-weaker c.left_join.result _ _
    (λ out h f. h f
    ∙ ap (λ (A : List Mapping). sum_by f (left_joins A c.args.right.now (satisfies c.args.scope.now.variables.now c.args.filters.now))) c.deref-then-not-is_one_part.ensures.value)
    c.left_join.ensures

pub returns : goal.returns
returns c =
    moved_left_joined c.args.left.items c.args.right.now c.as_slice-2.result.now c.in_ok-right.right.items c.as_slice.result.now c.in_ok-others.others.items
    c.as_slice-3.result.now c.in_ok-parts.parts.items c.as_slice-parts.result.now c.append_all_moved.new.out.items
    (ap rows_of c.as_slice-2.ensures.value ∙ c.in_ok-all.ensures ∙ c.deref-2.ensures.value) c.in_ok-right.ensures c.as_slice.ensures.value c.in_ok-others.ensures c.as_slice-3.ensures.value
    c.as_slice-parts.ensures.value (satisfies c.args.scope.now.variables.now c.args.filters.now) c.in_ok-parts.ensures
    (c.in_ok-append_all_moved.ensures
    ∙ ap (λ (l : List Mapping). l ++ flat_map (λ a. or_alone a
    (filter (satisfies c.args.scope.now.variables.now c.args.filters.now) (merges_in c.as_slice-parts.result.now a))) c.args.left.items) c.in_ok-out.ensures.items)
