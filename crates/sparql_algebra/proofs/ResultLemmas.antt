-- There is one result of each query.
use Rattle.std.proofs.Common.{◌≡◌, ◌+◌, ◌<◌, Bool, true, false, cond, List, [], ◌∷◌, refl, sym, ap, ◌∙◌, arith}
use Rattle.std.specs.List.{count_by}
use Rattle.std.proofs.lemmas.List.Sums.{sum_by-cons}
use Rattle.rdf_terms.specs.declared.quad.GraphName.{GraphName}
use Rattle.rdf_terms.specs.declared.quad.GraphName.TheVariants.{Default}
use Rattle.rdf_dataset.specs.State.{State}
use Rattle.sparql_trees.specs.Visible.{named, visible}
use Rattle.sparql_trees.specs.declared.pattern.Pattern.{Pattern}
use Rattle.sparql_trees.specs.declared.query.Select.{Select}
use Rattle.sparql_algebra.specs.Algebra.{translation}
use Rattle.sparql_algebra.specs.Bags.{SameBag}
use Rattle.sparql_algebra.specs.Laws.{SomeSolutions, SolutionsAgree, SomeSelection, OneSelection, SomeAnswer, OneAnswer, AnswerTellsSolutions, SomeSolutionList, OneSolutionList}
use Rattle.sparql_algebra.specs.Listing.{Listing, Lists, listing_of}
use Rattle.sparql_values.specs.Mapping.{Mapping, same_mapping}
use Rattle.sparql_algebra.specs.Results.{pattern_solutions, projected, projections, times_selected, is_some_solution}
use Rattle.sparql_algebra.specs.Solutions.{solutions}
use Rattle.sparql_algebra.specs.Sorted.{sort, sorted_solutions}
use Rattle.sparql_algebra.proofs.Sums.{one}
use Rattle.sparql_algebra.proofs.TermLemmas.{same_mapping_own}
use Rattle.sparql_algebra.proofs.BagLemmas.{SameBag-map}
use Rattle.sparql_algebra.proofs.IndependenceLemmas.{listings_same}
use Rattle.sparql_algebra.proofs.ListingLemmas.{there_is_a_listing}
use Rattle.sparql_algebra.proofs.Regroup.{each_once, each_once_lists}
use Rattle.sparql_algebra.proofs.SortedLemmas.{sort_sorted, sort_same, one_sorted}

pub pattern_same : (P : Pattern) (g : GraphName) (s : State) (d e : Listing) → Lists s d → Lists s e → SameBag (pattern_solutions P g d) (pattern_solutions P g e)
pattern_same P g s d e h k =
    SameBag-map (projected (named P) (visible P)) (solutions (named P) d g (translation P)) (solutions (named P) e g (translation P))
    (listings_same s d e h k (named P) g (translation P))

pub some_solutions : SomeSolutions
some_solutions P g s = (
  pattern_solutions P g (listing_of s),
  record { variables_are = refl; counted = λ d h m. pattern_same P g s (listing_of s) d (there_is_a_listing s) h (λ x. cond (same_mapping m x) 1 0) },
)

pub solutions_agree : SolutionsAgree
solutions_agree P g s us vs xs ys h k = (
  h.variables_are ∙ sym k.variables_are,
  λ m. h.counted (listing_of s) (there_is_a_listing s) m ∙ sym (k.counted (listing_of s) (there_is_a_listing s) m),
)

-- ---- sorted solutions

pub some_solution_list : SomeSolutionList
unfolding sorted_solutions
some_solution_list P g s = record {
  sorted = sort_sorted (pattern_solutions P g (listing_of s));
  counted = λ d h m.
      sort_same (pattern_solutions P g (listing_of s)) (λ x. cond (same_mapping m x) 1 0)
      ∙ pattern_same P g s (listing_of s) d (there_is_a_listing s) h (λ x. cond (same_mapping m x) 1 0);
}

pub one_solution_list : OneSolutionList
one_solution_list P g s xs ys h k =
    one_sorted xs ys h.sorted k.sorted
    (λ m. h.counted (listing_of s) (there_is_a_listing s) m ∙ sym (k.counted (listing_of s) (there_is_a_listing s) m))

-- ---- SELECT

pub projections_same : (q : Select) (s : State) (d e : Listing) → Lists s d → Lists s e → SameBag (projections q d) (projections q e)
projections_same q s d e h k =
    SameBag-map (projected (visible q.pattern) q.columns) (pattern_solutions q.pattern Default d) (pattern_solutions q.pattern Default e)
    (pattern_same q.pattern Default s d e h k)

abbrev pub selected : Bool → List Mapping → List Mapping
selected true xs = each_once xs
selected false xs = xs

pub selected_counts : (distinct : Bool) (xs : List Mapping) (m : Mapping) →
    count_by (same_mapping m) (selected distinct xs) ≡ times_selected distinct (count_by (same_mapping m) xs)
selected_counts true xs m = each_once_lists xs m
selected_counts false xs m = refl

pub some_selection : SomeSelection
some_selection q s =
    let xs : List Mapping = projections q (listing_of s) in (
      sort (selected q.distinct xs),
      record {
        sorted = sort_sorted (selected q.distinct xs);
        counted = λ d h m.
            sort_same (selected q.distinct xs) (λ x. cond (same_mapping m x) 1 0)
            ∙ selected_counts q.distinct xs m
            ∙ ap (times_selected q.distinct) (projections_same q s (listing_of s) d (there_is_a_listing s) h (λ x. cond (same_mapping m x) 1 0));
      },
    )

pub one_selection : OneSelection
one_selection q s xs ys h k =
    one_sorted xs ys h.sorted k.sorted
    (λ m. h.counted (listing_of s) (there_is_a_listing s) m ∙ sym (k.counted (listing_of s) (there_is_a_listing s) m))

-- ---- ASK

pub some_same : (xs ys : List Mapping) → SameBag xs ys → is_some_solution xs ≡ is_some_solution ys
some_same [] [] h = refl
some_same [] (y ∷ ys) h = absurd (omega (arith, h (λ _. 1), sum_by-cons (λ (_ : Mapping). 1) y ys))
some_same (x ∷ xs) [] h = absurd (omega (arith, h (λ _. 1), sum_by-cons (λ (_ : Mapping). 1) x xs))
some_same (x ∷ xs) (y ∷ ys) h = refl

pub some_answer : SomeAnswer
some_answer P s = (
  is_some_solution (pattern_solutions P Default (listing_of s)),
  λ d h. some_same (pattern_solutions P Default (listing_of s)) (pattern_solutions P Default d) (pattern_same P Default s (listing_of s) d (there_is_a_listing s) h),
)

pub one_answer : OneAnswer
one_answer P s x y h k = h (listing_of s) (there_is_a_listing s) ∙ sym (k (listing_of s) (there_is_a_listing s))

some_counted : (xs : List Mapping) → is_some_solution xs ≡ true → (m : Mapping) × (0 < count_by (same_mapping m) xs)
some_counted [] h = cc
some_counted (x ∷ xs) h =
    let c : count_by (same_mapping x) (x ∷ xs) ≡ one (same_mapping x x) + count_by (same_mapping x) xs = sum_by-cons _ x xs in
    let z : one (same_mapping x x) ≡ 1 = ap one (same_mapping_own x) in
    (x, omega (arith, c, z))

counted_some : (xs : List Mapping) (m : Mapping) → 0 < count_by (same_mapping m) xs → is_some_solution xs ≡ true
counted_some [] m h = absurd (omega arith)
counted_some (x ∷ xs) m h = refl

pub answer_tells_solutions : AnswerTellsSolutions
answer_tells_solutions P s answer h d k =
    (λ e. some_counted (pattern_solutions P Default d) (sym (h d k) ∙ e), λ e. h d k ∙ counted_some (pattern_solutions P Default d) e.0 e.1)
