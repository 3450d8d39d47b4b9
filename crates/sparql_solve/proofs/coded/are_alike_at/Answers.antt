use Rattle.std.proofs.Common.{refl, subst, List, All}
use Rattle.std.specs.Option.{option_copied}
use Rattle.std.proofs.lemmas.List.{take_all}
use Rattle.std.proofs.lemmas.List.Elements.{All-map, All-more}
use Rattle.sparql_solve.specs.Coded.{HasAt}
use Rattle.sparql_solve.specs.declared.coded.CodedRow.{CodedRow}
use Rattle.sparql_solve.proofs.CodedRowLemmas.{row_in}
use Rattle.sparql_solve.proofs.coded.are_alike_at.Goals as goal

pub loop-coded-preserved : goal.loop-coded-preserved
loop-coded-preserved c =
    All-more (λ (r : CodedRow). HasAt c.args.column (option_copied c.value-value.result) r.row) c.args.rows.now c.loop-coded.coded-index c.coded-item.result
    c.loop-coded-test.true c.loop-coded.invariant
    (subst (λ (r : CodedRow). HasAt c.args.column (option_copied c.value-value.result) r.row) c.coded-item.is (c.if-not-has_at.ensures refl))

pub returns : goal.returns
returns c holds = record {
  value = option_copied c.value-value.result;
  each = All-map (HasAt c.args.column (option_copied c.value-value.result)) row_in c.args.rows.now
      (subst (λ (rows : List CodedRow). All (λ r. HasAt c.args.column (option_copied c.value-value.result) r.row) rows)
      (take_all c.loop-coded.coded-index c.args.rows.now c.loop-coded-test.false) c.loop-coded.invariant);
}
