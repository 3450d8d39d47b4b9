-- Results of queries from the rows of the evaluator.
use Rattle.std.proofs.Common.{◌≡◌, ℕ, zero, suc, ◌+◌, ◌<◌, Bool, true, false, not, cond, List, [], ◌∷◌, ◌++◌, map, get_or, Option, Some, None, refl, sym, ap, ◌∙◌, subst, length, drop, append_assoc, nat_eq}
use Rattle.std.proofs.Math.Dec.{eqb-suc-zero}
use Rattle.std.specs.Cmp.{Equal-is}
use Rattle.std.specs.Cmp.Lexicographic.{pointwise, texts_ties}
use Rattle.std.specs.Prelude.{slice_index_or}
use Rattle.std.specs.List.{count_by}
use Rattle.std.specs.List.Sorted.{IsSorted, IsPermutation}
use Rattle.std.proofs.lemmas.List.{drop_more}
use Rattle.std.proofs.lemmas.List.Sorted.{sum_by-IsPermutation}
use Rattle.rdf_terms.specs.Order.{text_cmp}
use Rattle.rdf_terms.specs.OrderLaws.{text_cmp-IsAntisymmetric}
use Rattle.rdf_terms.specs.declared.quad.GraphName.{GraphName}
use Rattle.rdf_terms.specs.declared.quad.GraphName.TheVariants.{Default}
use Rattle.rdf_dataset.specs.State.{State}
use Rattle.sparql_trees.specs.Visible.{named, names_where, visible, with_names}
use Rattle.sparql_trees.specs.declared.pattern.Pattern.{Pattern}
use Rattle.sparql_trees.specs.declared.query.Select.{Select}
use Rattle.sparql_algebra.specs.Algebra.{translation}
use Rattle.sparql_algebra.specs.Bags.{SameBag}
use Rattle.sparql_algebra.specs.Listing.{Listing, Lists}
use Rattle.sparql_values.specs.Mapping.{Variables, Mapping, same_mapping, column, value_at, value_in, value_of}
use Rattle.sparql_algebra.specs.Order.{mapping_cmp}
use Rattle.sparql_algebra.specs.Results.{Solves, IsSelection, HasSolution, pattern_solutions, projected, projections, times_selected, is_some_solution}
use Rattle.sparql_algebra.specs.Solutions.{solutions}
use Rattle.sparql_algebra.specs.Sorted.{sorted_solutions}
use Rattle.sparql_algebra.proofs.CallerLemmas.{and_left, and_right, sums_from_counts, same_mapping_is, same_mapping_own, SameBag-map, nothing_left_out, some_solution_list, one_solution_list}
use Rattle.sparql_solve.specs.Members.{AreSolutions}
use Rattle.sparql_solve.specs.Pairs.{through}

project_is : (vs names : Variables) (m : Mapping) → map (value_in m) (map (column vs) names) ≡ projected vs names m
project_is vs [] m = refl
project_is vs (n ∷ ns) m = ap (λ (r : Mapping). value_of vs m n ∷ r) (project_is vs ns m)

map_same : (f g : Mapping → Mapping) (xs : List Mapping) → ((x : Mapping) → f x ≡ g x) → map f xs ≡ map g xs
map_same f g [] e = refl
map_same f g (x ∷ xs) e = ap (λ (y : Mapping). y ∷ map f xs) (e x) ∙ ap (λ (l : List Mapping). g x ∷ l) (map_same f g xs e)

-- one row more at the columns
pub shown_more : (columns cs : List (Option ℕ)) (rows : List Mapping) (i : ℕ) (x row : Mapping) (out after whole : List Mapping) → i < length rows → x ≡ get_or rows i x →
    cs ≡ columns → row ≡ map (value_in x) cs → after ≡ out ++ row ∷ [] → out ++ map (λ (r : Mapping). map (value_in r) columns) (drop i rows) ≡ whole →
    after ++ map (λ (r : Mapping). map (value_in r) columns) (drop (i + 1) rows) ≡ whole
shown_more columns cs rows i x row out after whole lt here ec er ea h =
    let shown : Mapping → Mapping = λ r. map (value_in r) columns in
    ap (λ (xs : List Mapping). xs ++ map shown (drop (i + 1) rows)) (ea ∙ ap (λ (m : Mapping). out ++ m ∷ []) (er ∙ ap (map (value_in x)) ec))
    ∙ append_assoc out (shown x ∷ []) (map shown (drop (i + 1) rows))
    ∙ ap (λ (xs : List Mapping). out ++ map shown xs) (sym (drop_more rows i x lt ∙ ap (λ (y : Mapping). y ∷ drop (i + 1) rows) (sym here))) ∙ h

names_apart : (a b : List ℕ) → pointwise nat_eq a b ≡ true → a ≡ b
names_apart a b h = text_cmp-IsAntisymmetric a b ((Equal-is (text_cmp a b)).0 (sym (texts_ties a b) ∙ h))

pub names_alike : (vs ws : Variables) → pointwise (pointwise nat_eq) vs ws ≡ true → vs ≡ ws
names_alike [] [] h = refl
names_alike [] (w ∷ ws) h = cc
names_alike (v ∷ vs) [] h = cc
names_alike (v ∷ vs) (w ∷ ws) h =
    let first : v ≡ w = names_apart v w (and_left (pointwise nat_eq v w) _ h) in
    let rest : vs ≡ ws = names_alike vs ws (and_right (pointwise nat_eq v w) _ h) in
    λ i. first i ∷ rest i

-- where no MINUS stands in the pattern
pub solved : (P : Pattern) (g : GraphName) (s : State) (vs names : Variables) (rows : List Mapping) → vs ≡ visible P → names ≡ vs → names_where true P ≡ names_where false P →
    AreSolutions s rows (λ d. solutions names d g (translation P)) → Solves P g s vs rows
unfolding named visible
solved P g s vs names rows e en alike h = record {
  variables_are = e;
  counted = λ d l m.
      h d l (λ x. cond (same_mapping m x) 1 0)
      ∙ ap (λ (ns : Variables). count_by (same_mapping m) (solutions ns d g (translation P))) (en ∙ e)
      ∙ ap (λ (ms : List Mapping). count_by (same_mapping m) ms) (sym (nothing_left_out P g d (ap (with_names []) alike)));
}

-- where no variable stands in MINUS alone
pub solved_alike : (P : Pattern) (g : GraphName) (s : State) (vs all names those : Variables) (rows : List Mapping) → vs ≡ visible P → all ≡ named P → names ≡ all → those ≡ vs →
    names ≡ those → AreSolutions s rows (λ d. solutions names d g (translation P)) → Solves P g s vs rows
solved_alike P g s vs all names those rows e ea en et same h =
    let shown : names ≡ visible P = same ∙ et ∙ e in
    let alike : named P ≡ visible P = sym (en ∙ ea) ∙ shown in
    record {
      variables_are = e;
      counted = λ d l m.
          h d l (λ x. cond (same_mapping m x) 1 0)
          ∙ ap (λ (ns : Variables). count_by (same_mapping m) (solutions ns d g (translation P))) shown
          ∙ ap (λ (ms : List Mapping). count_by (same_mapping m) ms) (sym (nothing_left_out P g d alike));
    }

-- the visible ones of the named variables
pub solved_shown : (P : Pattern) (g : GraphName) (s : State) (vs all names those : Variables) (found given rows : List Mapping) → vs ≡ visible P → all ≡ named P → names ≡ all →
    those ≡ vs → AreSolutions s found (λ d. solutions names d g (translation P)) → given ≡ found →
    rows ≡ map (λ r. map (value_in r) (map (column names) those)) given → Solves P g s vs rows
solved_shown P g s vs all names those found given rows e ea en et h eg er = record {
  variables_are = e;
  counted = λ d l m.
      ap (λ (ms : List Mapping). count_by (same_mapping m) ms)
      (er ∙ map_same (λ r. map (value_in r) (map (column names) those)) (projected names those) given (λ r. project_is names those r)
      ∙ ap (map (projected names those)) eg)
      ∙ SameBag-map (projected names those) found (solutions names d g (translation P)) (h d l) (λ x. cond (same_mapping m x) 1 0)
      ∙ ap (λ (ns : Variables). count_by (same_mapping m) (map (projected ns those) (solutions ns d g (translation P)))) (en ∙ ea)
      ∙ ap (λ (ns : Variables). count_by (same_mapping m) (map (projected (named P) ns) (solutions (named P) d g (translation P)))) (et ∙ e);
}

pub sorted_found : (P : Pattern) (g : GraphName) (s : State) (vs : Variables) (found rows : List Mapping) → Solves P g s vs found → IsPermutation found rows →
    IsSorted mapping_cmp rows → rows ≡ sorted_solutions P g s
sorted_found P g s vs found rows h p k =
    one_solution_list P g s rows (sorted_solutions P g s)
    (record { sorted = k; counted = λ d l m. sum_by-IsPermutation (λ x. cond (same_mapping m x) 1 0) found rows p ∙ h.counted d l m })
    (some_solution_list P g s)

solved_bag : (P : Pattern) (g : GraphName) (s : State) (vs : Variables) (rows : List Mapping) → Solves P g s vs rows → (d : Listing) → Lists s d →
    SameBag rows (pattern_solutions P g d)
solved_bag P g s vs rows h d l = sums_from_counts same_mapping same_mapping_is same_mapping_own rows (pattern_solutions P g d) (h.counted d l)

pub selected : (q : Select) (s : State) (vs given names : Variables) (found held fewer out : List Mapping) (columns cs : List (Option ℕ)) →
    Solves q.pattern Default s vs found → given ≡ vs → names ≡ q.columns → columns ≡ map (column given) names → cs ≡ columns → held ≡ found →
    ((m : Mapping) → times_selected q.distinct (count_by (same_mapping m) fewer)
    ≡ times_selected q.distinct (count_by (same_mapping m) (map (λ r. map (value_in r) cs) held))) → IsSorted mapping_cmp out →
    ((m : Mapping) → count_by (same_mapping m) out ≡ times_selected q.distinct (count_by (same_mapping m) fewer)) → IsSelection q s out
selected q s vs given names found held fewer out columns cs h eg en ec es eh kept sorted counted = record {
  sorted = sorted;
  counted = λ d l m. counted m ∙ kept m ∙ ap (times_selected q.distinct) (bag d l (λ x. cond (same_mapping m x) 1 0));
}
  where
    rows : List Mapping
    rows = map (λ m. map (value_in m) cs) held

    cols : cs ≡ map (column (visible q.pattern)) q.columns
    cols = es ∙ ec ∙ ap (λ (ns : Variables). map (column given) ns) en ∙ ap (λ (ns : Variables). map (column ns) q.columns) (eg ∙ h.variables_are)

    is : rows ≡ map (projected (visible q.pattern) q.columns) found
    is =
        ap (map (λ m. map (value_in m) cs)) eh ∙ ap (λ (ks : List (Option ℕ)). map (λ m. map (value_in m) ks) found) cols
        ∙ map_same (λ m. map (value_in m) (map (column (visible q.pattern)) q.columns)) (projected (visible q.pattern) q.columns) found
        (λ m. project_is (visible q.pattern) q.columns m)

    bag : (d : Listing) → Lists s d → SameBag rows (projections q d)
    bag d l =
        subst (λ (xs : List Mapping). SameBag xs (projections q d)) (sym is)
        (SameBag-map (projected (visible q.pattern) q.columns) found (pattern_solutions q.pattern Default d) (solved_bag q.pattern Default s vs found h d l))

pub some_is : (xs : List Mapping) → not (nat_eq (length xs) 0) ≡ is_some_solution xs
some_is [] = refl
some_is (x ∷ xs) = ap not (eqb-suc-zero (length xs))

some_shown : (f : Mapping → Mapping) (xs : List Mapping) → is_some_solution (map f xs) ≡ is_some_solution xs
some_shown f [] = refl
some_shown f (x ∷ xs) = refl

pub answered : (P : Pattern) (s : State) (all names : Variables) (answer : Bool) → all ≡ named P → names ≡ all →
    ((d : Listing) → Lists s d → answer ≡ is_some_solution (solutions names d Default (translation P))) → HasSolution P s answer
answered P s all names answer e en h d l =
    h d l ∙ ap (λ (ns : Variables). is_some_solution (solutions ns d Default (translation P))) (en ∙ e)
    ∙ sym (some_shown (projected (named P) (visible P)) (solutions (named P) d Default (translation P)))

-- ---- columns of columns

through_one : (m : Mapping) (cs : List (Option ℕ)) (j : ℕ) → value_at (map (value_in m) cs) j ≡ value_in m (slice_index_or cs j None)
through_one m [] j = refl
through_one m (c ∷ cs) zero = refl
through_one m (c ∷ cs) (suc j) = through_one m cs j

through_any : (m : Mapping) (cs : List (Option ℕ)) (o : Option ℕ) → value_in (map (value_in m) cs) o ≡ value_in m (through cs o)
through_any m cs None = refl
through_any m cs (Some j) = through_one m cs j

through_all : (m : Mapping) (cs os : List (Option ℕ)) → map (value_in (map (value_in m) cs)) os ≡ map (value_in m) (map (through cs) os)
through_all m cs [] = refl
through_all m cs (o ∷ os) = λ i. through_any m cs o i ∷ through_all m cs os i

through_rows : (cs os : List (Option ℕ)) (rows : List Mapping) →
    map (λ r. map (value_in r) os) (map (λ r. map (value_in r) cs) rows) ≡ map (λ r. map (value_in r) (map (through cs) os)) rows
through_rows cs os [] = refl
through_rows cs os (m ∷ rows) = λ i. through_all m cs os i ∷ through_rows cs os rows i

pub selected_through : (q : Select) (s : State) (vs all : Variables) (found fewer out : List Mapping) (columns : List (Option ℕ)) → vs ≡ visible q.pattern →
    all ≡ named q.pattern → AreSolutions s found (λ d. solutions all d Default (translation q.pattern)) →
    columns ≡ map (through (map (column all) vs)) (map (column vs) q.columns) →
    ((m : Mapping) → times_selected q.distinct (count_by (same_mapping m) fewer)
    ≡ times_selected q.distinct (count_by (same_mapping m) (map (λ r. map (value_in r) columns) found))) → IsSorted mapping_cmp out →
    ((m : Mapping) → count_by (same_mapping m) out ≡ times_selected q.distinct (count_by (same_mapping m) fewer)) → IsSelection q s out
selected_through q s vs all found fewer out columns ev ea h ec kept sorted counted =
    let cs : List (Option ℕ) = map (column all) vs in
    let os : List (Option ℕ) = map (column vs) q.columns in
    let shown : List Mapping = map (λ r. map (value_in r) cs) found in
    selected q s vs vs q.columns shown shown fewer out os os (solved_shown q.pattern Default s vs all all vs found found shown ev ea refl refl h refl refl) refl refl refl
    refl refl
    (λ m. kept m ∙ ap (λ (ks : List (Option ℕ)). times_selected q.distinct (count_by (same_mapping m) (map (λ r. map (value_in r) ks) found))) ec
    ∙ ap (λ (ms : List Mapping). times_selected q.distinct (count_by (same_mapping m) ms)) (sym (through_rows cs os found)))
    sorted counted
