use Rattle.std.proofs.Common.{List, ap, ◌∙◌}
use Rattle.std.specs.List.{sum_by}
use Rattle.std.proofs.lemmas.Result.{IfOk-weaker}
use Rattle.sparql_values.specs.Mapping.{Mapping}
use Rattle.sparql_algebra.specs.Solutions.{minuses}
use Rattle.sparql_solve.proofs.KeyLemmas.{rows_of}
use Rattle.sparql_solve.proofs.MinusLemmas.{moved_left}
use Rattle.sparql_solve.proofs.minus.minus_moved.Goals as goal

pub returns-then-not-is_one_part : goal.returns-then-not-is_one_part
returns-then-not-is_one_part c =
    IfOk-weaker c.minus.result _ _
    (λ out h f. h f ∙ ap (λ (A : List Mapping). sum_by f (minuses A c.args.right.now)) c.deref-then-not-is_one_part.ensures.value)
    c.minus.ensures

pub returns : goal.returns
returns c =
    moved_left c.args.left.items c.args.right.now c.as_slice-2.result.now c.in_ok-right.right.items c.as_slice.result.now c.in_ok-others.others.items
    c.as_slice-3.result.now c.in_ok-parts.parts.items c.as_slice-4.result.now c.rows_left.result.items
    (ap rows_of c.as_slice-2.ensures.value ∙ c.in_ok-all.ensures ∙ c.deref-2.ensures.value) c.in_ok-right.ensures c.as_slice.ensures.value c.in_ok-others.ensures c.as_slice-3.ensures.value
    c.as_slice-4.ensures.value c.in_ok-parts.ensures c.rows_left.ensures
