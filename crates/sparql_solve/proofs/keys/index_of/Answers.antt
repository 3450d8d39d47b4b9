use Rattle.std.proofs.Common.{rules, ◌≡◌, ap, Bor}
use Rattle.std.specs.Ordering.{is_lt}
use Rattle.std.proofs.lemmas.Fn.{always_returns_same}
use Rattle.std.proofs.lemmas.List.Sorted.{ranks_by}
use Rattle.sparql_values.specs.Mapping.{Mapping}
use Rattle.sparql_algebra.proofs.CallerLemmas.{mapping_total}
use Rattle.sparql_solve.specs.Keys.{key}
use Rattle.sparql_solve.proofs.KeyLemmas.{rows_of, earlier_at, index_found, index_unsorted}
use Rattle.sparql_solve.proofs.keys.index_of.Goals as goal

pub returns-then-is_empty : goal.returns-then-is_empty
returns-then-is_empty c =
    index_unsorted c.args.columns.now (rows_of c.args.rows.now) c.in_ok-index.index.items c.is_empty.result (ap rows_of c.in_ok-index.ensures.items) c.is_empty.ensures c.if-is_empty.true

pub returns : goal.returns
returns c =
    let lt = earlier_at c.args.columns.now in
    let ranks = ranks_by mapping_total (λ (a : Bor Mapping). key c.args.columns.now a.now) in
    index_found c.args.columns.now (rows_of c.args.rows.now) c.in_ok-index.index.items c.sort_by.new.self.items (ap rows_of c.in_ok-index.ensures.items) c.in_ok-sort_by.ensures.permutation
    (c.in_ok-sort_by.ensures.sorted lt ranks (always_returns_same _ (λ a r. is_lt r ≡ lt a.0.now a.1.0.now) _ (λ a r q k. search rules)))
    (c.in_ok-sort_by.ensures.stable lt ranks (always_returns_same _ (λ a r. is_lt r ≡ lt a.0.now a.1.0.now) _ (λ a r q k. search rules)))
