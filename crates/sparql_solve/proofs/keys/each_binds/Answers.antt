use Rattle.std.proofs.Common.{rules, tests, sym, ◌∙◌, Bor}
use Rattle.std.proofs.lemmas.Iterator.{YieldsList-from_slice}
use Rattle.std.proofs.lemmas.Iterator.Search.{all_from_yields_List}
use Rattle.std.proofs.lemmas.List.Folds.{list_all-map}
use Rattle.sparql_values.specs.Mapping.{Mapping}
use Rattle.sparql_solve.specs.Keys.{binds}
use Rattle.sparql_solve.proofs.keys.each_binds.Goals as goal

pub returns : goal.returns
returns c =
    all_from_yields_List (λ (r : Bor Mapping). binds c.args.column r.now) _ _ _ c.all.ensures.ran (YieldsList-from_slice c.args.rows.now cc)
    (λ x b q k. search (rules, tests)) ∙ sym (list_all-map (binds c.args.column) (λ (r : Bor Mapping). r.now) c.args.rows.now)
