use Rattle.std.proofs.Common.{rules, ◌≡◌}
use Rattle.std.specs.Ordering.{is_lt}
use Rattle.std.proofs.lemmas.List.Sorted.{answers_always}
use Rattle.sparql_values.specs.Mapping.{Mapping}
use Rattle.sparql_algebra.specs.Order.{mapping_cmp}
use Rattle.sparql_algebra.proofs.CallerLemmas.{mapping_ranks}
use Rattle.sparql_solve.proofs.order.sort_mappings.Goals as goal

pub returns-clause-sorted : goal.returns-clause-sorted
returns-clause-sorted c =
    c.in_ok-sort_by.ensures.sorted (λ (a b : Mapping). is_lt (mapping_cmp a b)) mapping_ranks
    (answers_always _ (λ a r. is_lt r ≡ is_lt (mapping_cmp a.0.now a.1.0.now)) _ (λ f a r q k. search rules))
