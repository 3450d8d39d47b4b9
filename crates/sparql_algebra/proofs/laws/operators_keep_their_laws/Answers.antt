use Rattle.std.proofs.Common.{List, [], ◌∷◌, length, cond, arith, ap, ◌∙◌}
use Rattle.std.specs.List.{count_by}
use Rattle.std.proofs.lemmas.List.Sums.{sum_by-append}
use Rattle.sparql_values.specs.Mapping.{Mapping, same_mapping, empty_mapping}
use Rattle.sparql_algebra.specs.Solutions.{basic_solutions, satisfies, solutions}
use Rattle.sparql_algebra.proofs.BagLemmas.{SameBag-refl, SameBag-joins}
use Rattle.sparql_algebra.proofs.CountLawLemmas.{lonely_stay}
use Rattle.sparql_algebra.proofs.FilterLemmas.{filter_always, filter_twice, filter-append}
use Rattle.sparql_algebra.proofs.JoinLemmas.{joins_commute, joins_associate, empty_solutions, empty_joins}
use Rattle.sparql_algebra.proofs.LengthLemmas.{solutions_length}
use Rattle.sparql_algebra.proofs.laws.operators_keep_their_laws.Goals as goal

pub returns-clause-join_commutes : goal.returns-clause-join_commutes
returns-clause-join_commutes c vs d g A B m = joins_commute (solutions vs d g A) (solutions vs d g B) (λ x. cond (same_mapping m x) 1 0)

pub returns-clause-join_associates : goal.returns-clause-join_associates
returns-clause-join_associates c vs d g A B C m =
    joins_associate (length vs) (solutions vs d g A) (solutions vs d g B) (solutions vs d g C)
    (solutions_length vs d g A) (solutions_length vs d g B) (solutions_length vs d g C) (λ x. cond (same_mapping m x) 1 0)

pub returns-clause-empty_is_unit : goal.returns-clause-empty_is_unit
returns-clause-empty_is_unit c vs d g A m =
    SameBag-joins (basic_solutions vs (d.quads g) (record { triples = []; hidden = 0 })) (empty_mapping vs ∷ []) (solutions vs d g A) (solutions vs d g A)
    (empty_solutions vs (d.quads g)) (SameBag-refl (solutions vs d g A)) (λ x. cond (same_mapping m x) 1 0)
    ∙ empty_joins vs (solutions vs d g A) (solutions_length vs d g A) (λ x. cond (same_mapping m x) 1 0)

pub returns-clause-union_commutes : goal.returns-clause-union_commutes
returns-clause-union_commutes c vs d g A B m =
    omega (
      arith,
      sum_by-append (λ x. cond (same_mapping m x) 1 0) (solutions vs d g A) (solutions vs d g B),
      sum_by-append (λ x. cond (same_mapping m x) 1 0) (solutions vs d g B) (solutions vs d g A),
    )

pub returns-clause-lonely_stay : goal.returns-clause-lonely_stay
returns-clause-lonely_stay c vs d g F A B V lv m h = lonely_stay (satisfies vs F) (solutions vs d g A) (solutions vs d g B) V lv m h

pub returns-clause-empty_condition : goal.returns-clause-empty_condition
returns-clause-empty_condition c vs d g A m = ap (λ (xs : List Mapping). count_by (same_mapping m) xs) (filter_always (solutions vs d g A))

pub returns-clause-filters_follow : goal.returns-clause-filters_follow
returns-clause-filters_follow c vs d g F G A m = ap (λ (xs : List Mapping). count_by (same_mapping m) xs) (filter_twice vs F G (solutions vs d g A))

pub returns-clause-filter_union : goal.returns-clause-filter_union
returns-clause-filter_union c vs d g F A B m =
    ap (λ (xs : List Mapping). count_by (same_mapping m) xs) (filter-append (satisfies vs F) (solutions vs d g A) (solutions vs d g B))
