use Rattle.std.proofs.Common.{List, Option, ℕ, map, ap, ◌∙◌}
use Rattle.std.proofs.lemmas.Result.{IfOk-weaker}
use Rattle.sparql_values.specs.Mapping.{Variables, column}
use Rattle.sparql_solve.specs.Pairs.{through}
use Rattle.sparql_solve.proofs.results.selected_columns.Goals as goal

pub returns : goal.returns
returns c =
    IfOk-weaker c.columns_through.result _ _
    (λ out e. e
    ∙ ap (λ (cs : List (Option ℕ)). map (through cs) c.as_slice-4.result.now) (c.as_slice-3.ensures.value ∙ c.in_ok-columns.ensures
    ∙ ap (λ (ns : Variables). map (column c.args.all.now) ns) c.as_slice.ensures)
    ∙ ap (λ (os : List (Option ℕ)). map (through (map (column c.args.all.now) c.args.variables.now)) os)
    (c.as_slice-4.ensures.value ∙ c.in_ok-places.ensures ∙ ap (λ (ns : Variables). map (column c.args.variables.now) ns) c.as_slice-2.ensures))
    c.columns_through.ensures
