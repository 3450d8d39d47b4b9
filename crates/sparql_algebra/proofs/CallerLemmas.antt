-- What other crates cite.
pub use Rattle.sparql_algebra.proofs.Sums.{one, sum_by-cong, sum_by-filter, sum_by-map, sum_by-flat_map, sums_from_counts}
pub use Rattle.sparql_algebra.proofs.TruthLemmas.{and_false, and_swap, and_assoc, and_left, and_right}
pub use Rattle.sparql_algebra.proofs.CountLemmas.{sum_zero, sum_of_tests, at_most_once}
pub use Rattle.sparql_algebra.proofs.TermLemmas.{same_term_is, same_value_is, same_mapping_is, same_mapping_own}
pub use Rattle.sparql_algebra.proofs.BagLemmas.{any_same, SameBag-refl, SameBag-trans, SameBag-filter, SameBag-map, SameBag-flat_map, SameBag-merges, SameBag-joins, SameBag-or_alone, SameBag-left_joins}
pub use Rattle.sparql_algebra.proofs.UniverseLemmas.{has_length}
pub use Rattle.sparql_algebra.proofs.ListingLemmas.{name_listed, name_once, names_same, has_terms, found_quads, triple_once}
pub use Rattle.sparql_algebra.proofs.LengthLemmas.{all_filter, single_length, length_from, length_to, merge_length, merges_length, set_length, solutions_length}
pub use Rattle.sparql_algebra.proofs.OrderLemmas.{less, mapping_cmp-IsAntisymmetric, mapping_total, mapping_ranks, neither_less}
pub use Rattle.sparql_algebra.proofs.SortedLemmas.{Rises, not_true, rises_from, sorted_from, leads_counted}
pub use Rattle.sparql_algebra.proofs.FilterLemmas.{filter_always, filter-cong, filter-append}
pub use Rattle.sparql_algebra.proofs.TranslationLemmas.{translation-is, element-Basic, element-Union, element-Optional, element-Graph, element-Minus}
pub use Rattle.sparql_algebra.proofs.MinusLemmas.{left_by_same, SameBag-minuses}
pub use Rattle.sparql_algebra.proofs.JoinLemmas.{sum_where, compatible_empty, compatible_turn, joins_commute, joins_associate, empty_solutions, empty_joins}
pub use Rattle.sparql_algebra.proofs.GrowthLemmas.{merges_grow}
pub use Rattle.sparql_algebra.proofs.Regroup.{counted_once}
pub use Rattle.sparql_algebra.proofs.ResultLemmas.{some_same, some_solution_list, one_solution_list}
pub use Rattle.sparql_algebra.proofs.ShownLemmas.{nothing_left_out}
pub use Rattle.sparql_algebra.proofs.BoundLemmas.{solutions_below, of_variable}
pub use Rattle.sparql_algebra.proofs.UnderLemmas.{basic_exact, any_filtered, filter_again, filter_turn, filter_flat_map, filter_where, join_alone, names_kept, active_unread, filter_cond, all_under_nothing, joined_alone, left_joined_alone, minus_alone, basic_under, union_under, joined_under, left_joined_under, filter_under, variable_under}
