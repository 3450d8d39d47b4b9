use Rattle.std.proofs.Common.{List, ap, ◌∙◌}
use Rattle.std.specs.List.{sum_by}
use Rattle.std.proofs.lemmas.Result.{IfOk-weaker}
use Rattle.sparql_algebra.specs.Solutions.{joins}
use Rattle.sparql_algebra.specs.Under.{agreeing}
use Rattle.sparql_algebra.proofs.CallerLemmas.{SameBag-filter}
use Rattle.sparql_values.specs.Mapping.{Mapping, compatible}
use Rattle.sparql_solve.proofs.names.rows_of_names.Goals as goal

pub returns : goal.returns
returns c =
    let rows = c.args.rows.now in
    let bound = c.deref.result.now in
    IfOk-weaker c.compatible_rows.result _ _
    (λ out e f. ap (sum_by f) e
    ∙ SameBag-filter (compatible c.args.under.now) c.in_ok-joined.joined.items (joins rows bound) c.in_ok-joined.ensures f
    ∙ ap (λ (xs : List Mapping). sum_by f (agreeing (joins rows xs) c.args.under.now)) (c.deref.ensures.value ∙ c.in_ok-bound.ensures))
    c.compatible_rows.ensures
