use Rattle.std.proofs.Common.{◌≡◌, List, ap, sym, map, ◌∙◌}
use Rattle.std.specs.List.{count_by}
use Rattle.std.proofs.lemmas.Result.{IfOk-weaker}
use Rattle.sparql_values.specs.Mapping.{Mapping, same_mapping, value_in}
use Rattle.sparql_algebra.specs.Results.{times_selected}
use Rattle.sparql_solve.proofs.results.selected_rows.Goals as goal

pub returns-then-are_all : goal.returns-then-are_all
returns-then-are_all c =
    let f : Mapping → Mapping = λ r. map (value_in r) c.args.columns.now in
    let whole = c.are_all.ensures c.if-are_all.true in
    let is : c.args.rows.items ≡ map f c.args.rows.items = sym c.deref.ensures.value ∙ sym whole ∙ ap (map f) c.deref.ensures.value in
    IfOk-weaker c.rows_of.result _ _ (λ out h m. ap (λ (xs : List Mapping). times_selected c.args.distinct (count_by (same_mapping m) xs)) (h ∙ is)) c.rows_of.ensures

pub returns : goal.returns
returns c =
    IfOk-weaker c.projected_rows.result _ _
    (λ out h m. h m
    ∙ ap (λ (xs : List Mapping). times_selected c.args.distinct (count_by (same_mapping m) (map (λ r. map (value_in r) c.args.columns.now) xs)))
    c.deref-2.ensures.value)
    c.projected_rows.ensures

pub returns-then-are_apart : goal.returns-then-are_apart
returns-then-are_apart c =
    IfOk-weaker c.moved_rows.result _ _ (λ out h m. ap (λ (xs : List Mapping). times_selected c.args.distinct (count_by (same_mapping m) xs)) h) c.moved_rows.ensures
