use Rattle.std.proofs.lemmas.Result.{IfOk-weaker}
use Rattle.sparql_solve.proofs.KeyLemmas.{rows_of, bound_columns}
use Rattle.sparql_solve.proofs.parts.columns_for.Goals as goal

pub returns : goal.returns
returns c =
    IfOk-weaker c.key_columns.result _ _ (λ columns e. bound_columns columns.items (rows_of c.args.left.now) (rows_of c.args.right.now) e)
    c.key_columns.ensures
