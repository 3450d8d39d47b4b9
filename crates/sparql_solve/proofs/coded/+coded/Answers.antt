use Rattle.std.proofs.Common.{arith, ◌-◌}
use Rattle.std.proofs.lemmas.List.Sorted.{IsPermutation-trans}
use Rattle.sparql_solve.specs.Coded.{rows_of}
use Rattle.sparql_solve.proofs.CodedRowLemmas.{alike_part, alike_permutation}
use Rattle.sparql_solve.proofs.CodedRunLemmas.{sorted_to_all, sorted_to_more}
use Rattle.sparql_solve.proofs.coded.+coded.Goals as goal

pub sort_coded-sort_runs-requires : goal.sort_coded-sort_runs-requires
sort_coded-sort_runs-requires t c = (
  omega arith,
  (
    alike_permutation c.first_apart-apart.result (rows_of c.args.rows.now) (rows_of c.sort_by_codes.new.rows) c.sort_by_codes.ensures.permutation
        c.first_apart-apart.ensures,
    (c.sort_by_codes.ensures.ranked, c.sort_by_codes.ensures.rising),
  ),
)

pub sort_coded-returns-clause-permutation : goal.sort_coded-returns-clause-permutation
sort_coded-returns-clause-permutation t c =
    IsPermutation-trans (rows_of c.args.rows.now) (rows_of c.sort_by_codes.new.rows) (rows_of c.sort_runs.new.rows)
    c.sort_by_codes.ensures.permutation c.sort_runs.ensures.permutation

pub sort_runs-sort_run-requires : goal.sort_runs-sort_run-requires
sort_runs-sort_run-requires t c = (
  omega arith,
  alike_part c.args.column c.loop-from.from (c.run_end-to.result - c.loop-from.from) c.loop-from.rows
      (alike_permutation c.args.column (rows_of c.args.rows.now) (rows_of c.loop-from.rows) c.loop-from.invariant.permutation c.requires.alike),
)

pub sort_runs-loop-from-preserved : goal.sort_runs-loop-from-preserved
sort_runs-loop-from-preserved t c =
    sorted_to_more c.loop-from.from c.run_end-to.result c.args.rows.now c.loop-from.rows c.sort_run.new.rows c.loop-from.invariant
    c.run_end-to.ensures.past c.run_end-to.ensures.within c.run_end-to.ensures.alike c.run_end-to.ensures.differ
    c.sort_run.ensures.permutation c.sort_run.ensures.sorted

pub sort_runs-returns-clause-sorted : goal.sort_runs-returns-clause-sorted
sort_runs-returns-clause-sorted t c =
    sorted_to_all c.loop-from.from c.args.rows.now c.loop-from.rows (omega arith) c.loop-from.invariant
