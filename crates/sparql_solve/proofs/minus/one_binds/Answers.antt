use Rattle.std.proofs.Common.{rules, tests, sym, ◌∙◌, Bor}
use Rattle.std.proofs.lemmas.Iterator.{YieldsList-from_slice}
use Rattle.std.proofs.lemmas.Iterator.Search.{any_from_yields_List}
use Rattle.sparql_values.specs.Mapping.{Mapping}
use Rattle.sparql_solve.specs.Keys.{binds}
use Rattle.sparql_solve.proofs.MinusLemmas.{any_of_rows}
use Rattle.sparql_solve.proofs.minus.one_binds.Goals as goal

pub returns : goal.returns
returns c =
    any_from_yields_List (λ (r : Bor Mapping). binds c.args.column r.now) _ _ _ c.any.ensures.ran (YieldsList-from_slice c.args.rows.now cc)
    (λ x b q k. search (rules, tests)) ∙ sym (any_of_rows (binds c.args.column) c.args.rows.now)
