use Rattle.std.proofs.Common.{rules, sym, subst, List, IsPermutation}
use Rattle.std.proofs.lemmas.List.Sorted.{IsNonDecreasingBy-from_sort_by_key, IsPermutation-map}
use Rattle.sparql_values.specs.Mapping.{Mapping}
use Rattle.sparql_solve.specs.Coded.{AreAlike, ShareStart, rows_of}
use Rattle.sparql_solve.specs.declared.coded.CodedRow.{CodedRow}
use Rattle.sparql_solve.proofs.CodedRowLemmas.{ranked, ranked_permutation, rising_codes, row_in}
use Rattle.sparql_solve.proofs.coded.sort_by_codes.Goals as goal

pub returns-clause-permutation : goal.returns-clause-permutation
returns-clause-permutation c =
    subst (λ (rows : List Mapping). IsPermutation rows (rows_of c.sort_unstable_by_key.new.self)) c.code_rows.ensures.rows
    (IsPermutation-map row_in _ _ c.sort_unstable_by_key.ensures.permutation)

pub returns-clause-ranked : goal.returns-clause-ranked
returns-clause-ranked c =
    ranked_permutation c.code_rows.new.rows c.sort_unstable_by_key.new.self c.sort_unstable_by_key.ensures.permutation
    (ranked c.args.column c.shared_start-skipped.result c.code_rows.new.rows
    (subst (AreAlike c.args.column) (sym c.code_rows.ensures.rows) c.requires)
    (subst (ShareStart c.args.column c.shared_start-skipped.result) (sym c.code_rows.ensures.rows) c.shared_start-skipped.ensures)
    c.code_rows.ensures.coded)

pub returns-clause-rising : goal.returns-clause-rising
returns-clause-rising c =
    rising_codes c.sort_unstable_by_key.new.self
    (IsNonDecreasingBy-from_sort_by_key (λ (r : CodedRow). r.code) c.sort_unstable_by_key.new.self c.sort_unstable_by_key.ensures.sorted (λ a r q k. search rules))
