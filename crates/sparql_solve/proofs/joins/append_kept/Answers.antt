use Rattle.std.proofs.Common.{List, ◌++◌, ap, ◌∙◌}
use Rattle.std.proofs.lemmas.Result.{IfOk-weaker}
use Rattle.sparql_values.specs.Mapping.{Mapping}
use Rattle.sparql_solve.specs.Parts.{merges_in}
use Rattle.sparql_solve.proofs.FilterLemmas.{no_filters}
use Rattle.sparql_solve.proofs.joins.append_kept.Goals as goal

pub returns-then-is_empty : goal.returns-then-is_empty
returns-then-is_empty c =
    IfOk-weaker c.append_partners.result _ _
    (λ x e. e ∙ ap (λ (l : List Mapping). c.args.out.now.items ++ l)
    (no_filters c.args.scope.now.variables.now c.args.filters.now (merges_in c.args.parts.now c.args.row.now) c.is_empty.result c.is_empty.ensures c.if-is_empty.true))
    c.append_partners.ensures
