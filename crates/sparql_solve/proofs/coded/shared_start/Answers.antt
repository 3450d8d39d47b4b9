use Rattle.std.proofs.Common.{arith, ◌≤◌, ℕ, All, List, length-take-le, subst, take}
use Rattle.std.proofs.lemmas.List.{length-take, take_all}
use Rattle.std.proofs.lemmas.List.Elements.{All-map}
use Rattle.sparql_values.specs.Mapping.{value_at}
use Rattle.sparql_solve.specs.Coded.{BeginsWith}
use Rattle.sparql_solve.specs.declared.coded.CodedRow.{CodedRow}
use Rattle.sparql_solve.proofs.CodedRowLemmas.{row_in, shared_more}
use Rattle.sparql_solve.proofs.coded.shared_start.Goals as goal

pub loop-coded-preserved : goal.loop-coded-preserved
loop-coded-preserved c =
    let first : List ℕ = c.as_bytes-first.result.now in
    let fewer : c.start_in-many.result ≤ c.loop-coded.many = omega (arith, c.start_in-many.ensures.within, length-take c.loop-coded.many first) in
    record {
      within = omega (arith, fewer, c.loop-coded.invariant.within);
      shared = shared_more first c.loop-coded.many c.start_in-many.result c.args.column c.loop-coded.coded-index c.args.rows.now c.coded-item.result
          c.loop-coded-test.true fewer c.loop-coded.invariant.shared
          (subst (λ (r : CodedRow). BeginsWith (take c.start_in-many.result (take c.loop-coded.many first)) (value_at r.row c.args.column)) c.coded-item.is
          c.start_in-many.ensures.begins);
    }

pub returns : goal.returns
returns c = record {
  start = take c.loop-coded.many c.as_bytes-first.result.now;
  many_are = length-take-le c.loop-coded.many c.as_bytes-first.result.now c.loop-coded.invariant.within;
  each = All-map (λ m. BeginsWith (take c.loop-coded.many c.as_bytes-first.result.now) (value_at m c.args.column)) row_in c.args.rows.now
      (subst (λ (rows : List CodedRow). All (λ r. BeginsWith (take c.loop-coded.many c.as_bytes-first.result.now) (value_at r.row c.args.column)) rows)
      (take_all c.loop-coded.coded-index c.args.rows.now c.loop-coded-test.false) c.loop-coded.invariant.shared);
}
