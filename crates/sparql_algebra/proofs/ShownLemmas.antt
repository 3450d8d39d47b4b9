-- Solutions bind visible variables alone, so nothing is lost where only these are shown.
use Rattle.std.proofs.Common.{◌≡◌, ℕ, zero, suc, ◌<◌, Bool, true, false, cond, ◌||◌, List, [], ◌∷◌, map, length, Option, Some, None, is_some, refl, sym, ap, ◌∙◌, subst, arith}
use Rattle.std.specs.List.{AllByRecursion, flat_map, list_all, sum_by}
use Rattle.std.specs.List.Sorted.{IsStrictlySortedBy}
use Rattle.std.specs.Cmp.Lexicographic.{nat_list_cmp_total}
use Rattle.std.specs.Option.{option_map}
use Rattle.std.specs.Ordering.{is_eq, ordering_reverse}
use Rattle.std.specs.declared.cmp.Ordering.TheVariants.{Less}
use Rattle.std.proofs.lemmas.List.Sums.{sum_by-cons}
use Rattle.std.proofs.lemmas.Map.Keys.{sorted_head, sorted_tail}
use Rattle.rdf_terms.specs.Order.{text_cmp}
use Rattle.rdf_terms.specs.declared.term.Term.{Term}
use Rattle.sparql_trees.specs.Visible.{named, triple_names, visible}
use Rattle.sparql_values.specs.Mapping.{Variables, Mapping, same_mapping, column, value_at, value_in, value_of}
use Rattle.sparql_algebra.specs.Algebra.{basic, translation}
use Rattle.sparql_algebra.specs.Laws.{is_among, BindsOnly, VisibleAreBound, ShownCountsSame, NothingLeftOut, TriplesBindTheirOwn}
use Rattle.sparql_algebra.specs.Results.{projected}
use Rattle.sparql_algebra.specs.Solutions.{occurs, same_bool, binds_exactly, basic_solutions, solutions}
use Rattle.sparql_algebra.specs.Under.{sees}
use Rattle.sparql_algebra.proofs.Sums.{one, sum_by-map}
use Rattle.sparql_algebra.proofs.TruthLemmas.{and_left, and_right, both_true}
use Rattle.sparql_algebra.proofs.TermLemmas.{same_mapping_is, same_mapping_own}
use Rattle.sparql_algebra.proofs.LengthLemmas.{length_from, solutions_length}
use Rattle.sparql_algebra.proofs.NameLemmas.{same, same_is, same_own, column-cons, column_among, column_within, occurs_is, sees_visible}
use Rattle.sparql_algebra.proofs.Regroup.{times, times_cons, times_own}
use Rattle.sparql_algebra.proofs.UnderLemmas.{basic_exact, binds_within, within}
use Rattle.sparql_algebra.proofs.UniverseLemmas.{has_length}
use Rattle.sparql_algebra.proofs.VariableLemmas.{named_are_all, named_in_order, variables_are_all, variables_in_order}

-- ---- what stands in a list

pub all_counted : (q : Mapping → Bool) (xs : List Mapping) (m : Mapping) → list_all q xs ≡ true → 0 < times xs m → q m ≡ true
all_counted q [] m h c = absurd (omega arith)
all_counted q (x ∷ xs) m h c = by_test (same_mapping m x) refl (all_counted q xs m (and_right (q x) _ h))
  where
    by_test : (b : Bool) → same_mapping m x ≡ b → (0 < times xs m → q m ≡ true) → q m ≡ true
    by_test true e r = ap q (same_mapping_is m x e) ∙ and_left (q x) _ h
    by_test false e r = let z : one (same_mapping m x) ≡ 0 = ap one e in r (omega (arith, c, z, times_cons m x xs))

sum_counted : (f k : Mapping → ℕ) (xs : List Mapping) → ((x : Mapping) → 0 < times xs x → f x ≡ k x) → sum_by f xs ≡ sum_by k xs
sum_counted f k [] e = refl
sum_counted f k (x ∷ xs) e =
    omega (
      arith,
      sum_by-cons f x xs,
      sum_by-cons k x xs,
      e x (omega (arith, times_own x xs)),
      sum_counted f k xs (λ y h. e y (omega (arith, h, times_cons y x xs))),
    )

-- ---- mappings shown at their own variables

above_differs : (v n : List ℕ) → text_cmp v n ≡ Less → same n v ≡ false
above_differs v n e = ap is_eq (nat_list_cmp_total.antisymm n v ∙ ap ordering_reverse e)

behind : (v : List ℕ) (vs : Variables) (x : Option Term) (m : Mapping) (n : List ℕ) → text_cmp v n ≡ Less → value_of (v ∷ vs) (x ∷ m) n ≡ value_of vs m n
behind v vs x m n e =
    ap (value_in (x ∷ m)) (column-cons v vs n ∙ ap (λ b. cond b (Some 0) (option_map suc (column vs n))) (above_differs v n e)) ∙ moved (column vs n)
  where
    moved : (o : Option ℕ) → value_in (x ∷ m) (option_map suc o) ≡ value_in m o
    moved (Some c) = refl
    moved None = refl

all_behind : (v : List ℕ) (vs : Variables) (x : Option Term) (m : Mapping) (ns : Variables) → AllByRecursion (λ n. text_cmp v n ≡ Less) ns →
    projected (v ∷ vs) ns (x ∷ m) ≡ projected vs ns m
all_behind v vs x m [] a = refl
all_behind v vs x m (n ∷ ns) a = λ i. behind v vs x m n a.0 i ∷ all_behind v vs x m ns a.1 i

own_values : (vs : Variables) (m : Mapping) → IsStrictlySortedBy text_cmp vs → length m ≡ length vs → projected vs vs m ≡ m
own_values [] [] s e = refl
own_values [] (x ∷ m) s e = absurd (omega (arith, e))
own_values (v ∷ vs) [] s e = absurd (omega (arith, e))
own_values (v ∷ vs) (x ∷ m) s e =
    let first : value_of (v ∷ vs) (x ∷ m) v ≡ x =
    ap (value_in (x ∷ m)) (column-cons v vs v ∙ ap (λ b. cond b (Some 0) (option_map suc (column vs v))) (same_own v)) in
    let rest : projected (v ∷ vs) vs (x ∷ m) ≡ m =
    all_behind v vs x m vs (sorted_head text_cmp v vs s) ∙ own_values vs m (sorted_tail text_cmp v vs s) (omega (arith, e)) in
    λ i. first i ∷ rest i

whole_shown : (vs : Variables) → IsStrictlySortedBy text_cmp vs → (S : List Mapping) → list_all (has_length (length vs)) S ≡ true → map (projected vs vs) S ≡ S
whole_shown vs s [] h = refl
whole_shown vs s (m ∷ S) h =
    let first : projected vs vs m ≡ m = own_values vs m s (length_from (length vs) m (and_left (has_length (length vs) m) _ h)) in
    let rest : map (projected vs vs) S ≡ S = whole_shown vs s S (and_right (has_length (length vs) m) _ h) in
    λ i. first i ∷ rest i

pub nothing_left_out : NothingLeftOut
nothing_left_out P g d e =
    ap (λ (vs : Variables). map (projected vs (visible P)) (solutions vs d g (translation P))) e
    ∙ whole_shown (visible P) (variables_in_order P) (solutions (visible P) d g (translation P)) (solutions_length (visible P) d g (translation P))

-- ---- what is bound

seen_at : (test : ℕ → Bool) (m : Mapping) (c : ℕ) (t : Term) → binds_within test m ≡ true → value_at m c ≡ Some t → test c ≡ true
seen_at test [] c t h e = cc
seen_at test (Some u ∷ m) zero t h e = and_left (test zero) _ h
seen_at test (None ∷ m) zero t h e = cc
seen_at test (Some u ∷ m) (suc c) t h e = seen_at (λ d. test (suc d)) m c t (and_right (test zero) _ h) e
seen_at test (None ∷ m) (suc c) t h e = seen_at (λ d. test (suc d)) m c t h e

pub visible_are_bound : VisibleAreBound
visible_are_bound P g d m h name out = by_column (column (named P) name) refl
  where
    bound : binds_within (sees (named P) (translation P)) m ≡ true
    bound =
        all_counted (binds_within (sees (named P) (translation P))) (solutions (named P) d g (translation P)) m
        (within (named P) d g (translation P) (sees (named P) (translation P)) (λ c k. k)) h

    by_value : (c : ℕ) (x : Option Term) → column (named P) name ≡ Some c → value_at m c ≡ x → x ≡ None
    by_value c (Some t) e k =
        let shown : is_among name (visible P) ≡ true =
        variables_are_all P name ∙ sym (sees_visible (named P) c name e P) ∙ seen_at (sees (named P) (translation P)) m c t bound k in
        cc
    by_value c None e k = refl

    by_column : (o : Option ℕ) → column (named P) name ≡ o → value_in m o ≡ None
    by_column (Some c) e = by_value c (value_at m c) e refl
    by_column None e = refl

-- ---- counts

same_where : (vs : Variables) (m w : Mapping) (shown : Variables) (name : List ℕ) → projected vs shown m ≡ projected vs shown w →
    is_among name shown ≡ true → value_of vs m name ≡ value_of vs w name
same_where vs m w [] name e h = cc
same_where vs m w (n ∷ shown) name e h = by_test (same name n) refl h (λ r k. same_where vs m w shown name r k)
  where
    first : value_of vs m n ≡ value_of vs w n
    first = cc

    rest : projected vs shown m ≡ projected vs shown w
    rest = cc

    by_test : (b : Bool) → same name n ≡ b → (b || is_among name shown) ≡ true →
        (projected vs shown m ≡ projected vs shown w → is_among name shown ≡ true → value_of vs m name ≡ value_of vs w name) →
        value_of vs m name ≡ value_of vs w name
    by_test true i k r = subst (λ (x : List ℕ). value_of vs m x ≡ value_of vs w x) (sym (same_is name n i)) first
    by_test false i k r = r rest k

values_same : (vs names : Variables) (m w : Mapping) → ((name : List ℕ) → value_of vs m name ≡ value_of vs w name) → projected vs names m ≡ projected vs names w
values_same vs [] m w e = refl
values_same vs (n ∷ names) m w e = λ i. e n i ∷ values_same vs names m w e i

-- of mappings that bind shown variables alone those are the same that have the same there
shown_same : (vs shown : Variables) (m w : Mapping) → IsStrictlySortedBy text_cmp vs → length m ≡ length vs → length w ≡ length vs → BindsOnly vs shown m →
    BindsOnly vs shown w → projected vs shown m ≡ projected vs shown w → m ≡ w
shown_same vs shown m w s em ew bm bw e =
    sym (own_values vs m s em) ∙ values_same vs vs m w (λ name. by_test name (is_among name shown) refl) ∙ own_values vs w s ew
  where
    by_test : (name : List ℕ) (b : Bool) → is_among name shown ≡ b → value_of vs m name ≡ value_of vs w name
    by_test name true k = same_where vs m w shown name e k
    by_test name false k = bm name k ∙ sym (bw name k)

pub shown_counts_same : ShownCountsSame
shown_counts_same P g d m e h =
    sum_by-map (λ x. one (same_mapping (shown m) x)) shown found
    ∙ sum_counted (λ w. one (same_mapping (shown m) (shown w))) (λ w. one (same_mapping m w)) found (λ w k. ap one (each w k))
  where
    shown : Mapping → Mapping
    shown w = projected (named P) (visible P) w

    found : List Mapping
    found = solutions (named P) d g (translation P)

    each : (w : Mapping) → 0 < times found w → same_mapping (shown m) (shown w) ≡ same_mapping m w
    each w k =
        both_true (same_mapping (shown m) (shown w)) (same_mapping m w)
        (λ s. ap (same_mapping m) (sym (shown_same (named P) (visible P) m w (named_in_order P) e
        (length_from (length (named P)) w (all_counted (has_length (length (named P))) found w (solutions_length (named P) d g (translation P)) k))
        h (visible_are_bound P g d w k) (same_mapping_is (shown m) (shown w) s))) ∙ same_mapping_own m)
        (λ s. ap (λ (x : Mapping). same_mapping (shown m) (shown x)) (sym (same_mapping_is m w s)) ∙ same_mapping_own (shown m))

-- ---- triple patterns

exact_at : (test : ℕ → Bool) (m : Mapping) (c : ℕ) → binds_exactly test m ≡ true → c < length m → is_some (value_at m c) ≡ test c
exact_at test [] c h l = absurd (omega (arith, l))
exact_at test (x ∷ m) zero h l = both x (test zero) (and_left (same_bool (is_some x) (test zero)) _ h)
  where
    both : (y : Option Term) (b : Bool) → same_bool (is_some y) b ≡ true → is_some y ≡ b
    both (Some t) true k = refl
    both (Some t) false k = cc
    both None true k = cc
    both None false k = refl
exact_at test (x ∷ m) (suc c) h l = exact_at (λ d. test (suc d)) m c (and_right (same_bool (is_some x) (test zero)) _ h) (omega (arith, l))

pub triples_bind_their_own : TriplesBindTheirOwn
triples_bind_their_own P b inside g d m h name = by_column (column (named P) name) refl
  where
    found : List Mapping
    found = basic_solutions (named P) (d.quads g) b

    exact : binds_exactly (occurs (named P) b.triples) m ≡ true
    exact = all_counted (binds_exactly (occurs (named P) b.triples)) found m (basic_exact (named P) (d.quads g) b) h

    wide : length m ≡ length (named P)
    wide =
        length_from (length (named P)) m
        (all_counted (has_length (length (named P))) found m (solutions_length (named P) d g (basic b)) h)

    absent : (a : Bool) → is_among name (flat_map triple_names b.triples) ≡ a → column (named P) name ≡ None → false ≡ a
    absent true k e =
        let there : (c : ℕ) × (column (named P) name ≡ Some c) = column_among (named P) name (named_are_all P name ∙ inside name k) in
        let some : column (named P) name ≡ Some there.0 = there.1 in
        cc
    absent false k e = refl

    by_column : (o : Option ℕ) → column (named P) name ≡ o → is_some (value_in m o) ≡ is_among name (flat_map triple_names b.triples)
    by_column (Some c) e =
        exact_at (occurs (named P) b.triples) m c exact (omega (arith, wide, column_within (named P) name c e))
        ∙ occurs_is (named P) c name e b.triples
    by_column None e = absent (is_among name (flat_map triple_names b.triples)) refl e
