use Rattle.std.proofs.Common.{List, map, take, ap, ◌∙◌}
use Rattle.std.proofs.lemmas.Result.{IfOk-weaker}
use Rattle.sparql_algebra.specs.Under.{agreeing}
use Rattle.sparql_values.specs.Mapping.{Mapping}
use Rattle.sparql_solve.proofs.chunks.cut_compatible.Goals as goal

pub returns : goal.returns
returns c =
    IfOk-weaker c.compatible_rows.result _ _
    (λ out e. e ∙ ap (λ (rows : List Mapping). agreeing rows c.args.under.now)
    (c.in_ok-cut.ensures ∙ ap (λ n. map (take n) c.args.rows.items) c.len.ensures))
    c.compatible_rows.ensures
