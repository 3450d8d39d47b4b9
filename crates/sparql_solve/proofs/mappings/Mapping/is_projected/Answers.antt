use Rattle.std.proofs.Common.{◌≡◌, rules, tests, false, ap, ◌∙◌, length, map, nat_eq}
use Rattle.std.proofs.lemmas.Bool.{ne_eqb}
use Rattle.std.proofs.lemmas.Iterator.{YieldsList-from_slice, YieldsList-from_zip}
use Rattle.std.proofs.lemmas.Iterator.Search.{all_from_yields_List}
use Rattle.sparql_values.specs.Mapping.{same_mapping, value_in}
use Rattle.sparql_solve.proofs.RowLemmas.{has_value, projected_all, projected_apart}
use Rattle.sparql_solve.proofs.mappings.Mapping.is_projected.Goals as goal

pub returns-then-columns-values : goal.returns-then-columns-values
returns-then-columns-values c =
    let lengths : length c.args.columns.now ≡ length c.values-values.result.now = cc in
    all_from_yields_List {s = c.zip.result} (has_value c.args.self.now) c.all.new.self _ _ c.all.ensures.ran
    (YieldsList-from_zip (YieldsList-from_slice c.args.columns.now cc) (YieldsList-from_slice c.values-values.result.now cc))
    (λ x b q k. search (rules, tests))
    ∙ projected_all c.args.self.now c.args.columns.now c.values-values.result.now lengths
    ∙ ap (same_mapping (map (value_in c.args.self.now) c.args.columns.now)) c.values-values.ensures

pub returns-else-columns-values : goal.returns-else-columns-values
returns-else-columns-values c =
    let apart : nat_eq (length c.args.columns.now) (length c.values-values.result.now) ≡ false =
    ne_eqb (length c.args.columns.now) (length c.values-values.result.now) c.if-columns-values.false in
    apart ∙ projected_apart c.args.self.now c.args.columns.now c.values-values.result.now apart
    ∙ ap (same_mapping (map (value_in c.args.self.now) c.args.columns.now)) c.values-values.ensures
