use Rattle.std.proofs.Common.{arith, ◌<◌, ◌∙◌, length, subst, sym}
use Rattle.std.proofs.lemmas.List.Elements.{AllWithin-more_set}
use Rattle.sparql_solve.specs.Coded.{IsCoded, ShareStart}
use Rattle.sparql_solve.proofs.CodedRowLemmas.{rows_set, start_within}
use Rattle.sparql_solve.proofs.coded.code_rows.Goals as goal

pub code_of-coded-requires : goal.code_of-coded-requires
code_of-coded-requires c =
    let at : c.loop-coded.coded-index < length c.loop-coded.rows = omega arith in
    start_within c.args.column c.args.skipped c.loop-coded.rows c.loop-coded.coded-index c.coded-item.result at
    (subst (ShareStart c.args.column c.args.skipped) (sym c.loop-coded.invariant.same) c.requires)

pub loop-coded-preserved : goal.loop-coded-preserved
loop-coded-preserved c =
    let at : c.loop-coded.coded-index < length c.loop-coded.rows = omega arith in
    record {
      same = rows_set c.loop-coded.rows c.loop-coded.coded-index c.code_of-coded.result c.coded-item.result at ∙ c.loop-coded.invariant.same;
      coded = AllWithin-more_set c.loop-coded.rows c.loop-coded.coded-index _ at (IsCoded c.args.column c.args.skipped)
          c.loop-coded.invariant.coded (record { code = c.code_of-coded.ensures.code; bytes = c.code_of-coded.ensures.bytes });
    }
