use Rattle.std.proofs.Common.{length, take, ◌≤◌, All}
use Rattle.sparql_values.specs.Mapping.{value_at}
use Rattle.sparql_solve.specs.Coded.{BeginsWith}
use Rattle.sparql_solve.proofs.coded.shared_start.Given as goal

abbrev pub invariant-loop-coded : goal.invariant-loop-coded
invariant-loop-coded l = record {
  within : l.many ≤ length l.first;
  shared : All (λ r. BeginsWith (take l.many l.first) (value_at r.row l.column)) (take l.coded-index l.rows);
}
