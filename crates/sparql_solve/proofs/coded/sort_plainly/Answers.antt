use Rattle.std.proofs.Common.{rules, ◌≡◌, is_lt}
use Rattle.std.proofs.lemmas.List.Sorted.{answers_always, IsPermutation-map}
use Rattle.sparql_algebra.proofs.CallerLemmas.{less}
use Rattle.sparql_solve.specs.declared.coded.CodedRow.{CodedRow}
use Rattle.sparql_solve.proofs.CodedRowLemmas.{row_in, rows_rank, sorted_rows}
use Rattle.sparql_solve.proofs.coded.sort_plainly.Goals as goal

pub returns-clause-permutation : goal.returns-clause-permutation
returns-clause-permutation c = IsPermutation-map row_in _ _ c.sort_unstable_by.ensures.permutation

pub returns-clause-sorted : goal.returns-clause-sorted
returns-clause-sorted c =
    sorted_rows c.sort_unstable_by.new.self
    (c.sort_unstable_by.ensures.sorted (λ (a b : CodedRow). less a.row b.row) rows_rank
    (answers_always _ (λ a r. is_lt r ≡ less a.0.now.row a.1.0.now.row) _ (λ f a r q k. search rules)))
