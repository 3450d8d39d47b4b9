use Rattle.std.proofs.Common.{List, ap, ◌∙◌}
use Rattle.std.specs.List.{flat_map, sum_by}
use Rattle.std.proofs.lemmas.Result.{IfOk-weaker}
use Rattle.sparql_algebra.specs.Algebra.{element}
use Rattle.sparql_algebra.specs.Solutions.{merges}
use Rattle.sparql_algebra.proofs.CallerLemmas.{SameBag-filter, filter_flat_map}
use Rattle.sparql_values.specs.Mapping.{Mapping, compatible}
use Rattle.sparql_solve.specs.Under.{kept, met}
use Rattle.sparql_solve.proofs.sides.rows_beside.Goals as goal

pub returns : goal.returns
returns c =
    let F : Mapping → List Mapping = λ x.
    kept c.args.scope.now.variables.now (element c.args.member.now) x (merges (met (element c.args.member.now) x c.args.found.now) x) in
    IfOk-weaker c.compatible_rows.result _ _
    (λ out e f. ap (sum_by f) e
    ∙ SameBag-filter (compatible c.args.under.now) c.in_ok-joined.joined.items (flat_map F c.args.rows.now) c.in_ok-joined.ensures f
    ∙ ap (sum_by f) (filter_flat_map (compatible c.args.under.now) F c.args.rows.now))
    c.compatible_rows.ensures
