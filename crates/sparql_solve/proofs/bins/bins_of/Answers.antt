use Rattle.std.proofs.Common.{◌∙◌, Bor, List, ap, filter, map, take_all}
use Rattle.sparql_values.specs.Mapping.{Mapping}
use Rattle.sparql_solve.specs.Bins.{has_at}
use Rattle.sparql_solve.proofs.bins.bins_of.Goals as goal

pub returns-clause-bins : goal.returns-clause-bins
returns-clause-bins c =
    λ t. c.over.ensures t ∙ c.loop-row.invariant.put t
    ∙ ap (λ (rows : List (Bor Mapping)). filter (has_at c.args.column t) (map (λ r. r.now) rows)) (take_all c.loop-row.row-index c.args.rows.now c.loop-row-test.false)
