use Rattle.std.proofs.Common.{rules, tests, ℕ}
use Rattle.std.specs.List.{list_any}
use Rattle.std.proofs.lemmas.Iterator.{YieldsList-from_slice}
use Rattle.std.proofs.lemmas.Iterator.Search.{any_from_yields_List}
use Rattle.sparql_solve.specs.Keys.{binds}
use Rattle.sparql_solve.proofs.KeyLemmas.{rows_of}
use Rattle.sparql_solve.proofs.minus.one_column.Goals as goal

pub returns : goal.returns
returns c =
    any_from_yields_List (λ (column : ℕ). list_any (binds column) (rows_of c.args.right.now)) _ _ _ c.any.ensures.ran
    (YieldsList-from_slice c.args.columns.now cc) (λ x b q k. search (rules, tests))
