-- Quads that are sorted by the ranks of their terms are in order.
use Rattle.std.proofs.Common.{◌≡◌, ℕ, zero, suc, ◌+◌, ◌<◌, ◌≤◌, List, [], ◌∷◌, ◌++◌, map, length, get_or, refl, sym, ap, subst, ◌∙◌, arith, inl, inr}
use mathlib.Core.Bool.{true≢false}
use Rattle.std.specs.Prelude.{All, IsSorted, IsPermutation, Some, None, unwrap_or}
use Rattle.std.specs.declared.cmp.Ordering.{Ordering}
use Rattle.std.specs.declared.cmp.Ordering.TheVariants.{Less, Equal, Greater}
use Rattle.std.specs.Ordering.{nat_cmp, ordering_then, ordering_reverse, is_lt, is_eq, eq_by_cmp}
use Rattle.std.specs.Cmp.{IsTotalOrder, nat_cmp_is, nat_cmp_total}
use Rattle.std.specs.List.{dedup}
use Rattle.std.specs.List.Sorted.{IsStrictlySortedBy}
use Rattle.std.proofs.lemmas.Bool.{cases_lt}
use Rattle.std.proofs.lemmas.Cmp.{tied_itself}
use Rattle.std.proofs.lemmas.List.{get_or-map, length-map}
use Rattle.std.proofs.lemmas.List.{map-append}
use Rattle.std.proofs.lemmas.List.Elements.{All-push}
use Rattle.std.proofs.lemmas.List.Filters.{All-dedup}
use Rattle.std.proofs.lemmas.List.Kept.{IsStrictlySortedBy-dedup}
use Rattle.std.proofs.lemmas.List.Sorted.{All-permutation}
use Rattle.std.proofs.lemmas.Map.Keys.{Less-from_sorted, sorted_from_all_adjacent}
use Rattle.std.proofs.lemmas.Option.{slice_get-map, slice_get_within, unwrap_or-slice_get, get_or_from_slice_get}
use Rattle.rdf_terms.specs.declared.term.Term.{Term}
use Rattle.rdf_terms.specs.declared.term.Term.TheVariants.{Blank}
use Rattle.rdf_terms.specs.declared.quad.GraphName.TheVariants.{Named}
use Rattle.rdf_terms.specs.Quad.{QuadParts}
use Rattle.rdf_terms.specs.Order.{term_cmp, graph_cmp, quad_cmp}
use Rattle.rdf_terms.specs.OrderLaws.{term_order, term_cmp_total, term_cmp-IsAntisymmetric}
use Rattle.rdf_terms.specs.Table.{IsIdOf, AreHeldOnce}
use Rattle.rdf_store.specs.declared.ranks.Numbered.{Numbered}
use Rattle.rdf_store.specs.declared.ranks.Ranked.{Ranked}
use Rattle.rdf_store.specs.contracts.ranks.NumberedOrd.TheImpl as of_numbered
use Rattle.rdf_store.specs.contracts.ranks.NumberedOrd.TheImpl.Laws as laws_of_numbered
use Rattle.rdf_store.specs.contracts.ranks.NumberedPartialEq.TheImpl as eq_of_numbered
use Rattle.rdf_store.specs.contracts.ranks.RankedOrd.TheImpl as of_ranked
use Rattle.std.specs.List.Retain.{IsFiltered, DiffersFromLast}
use Rattle.std.proofs.Common.{cond, add-one}
use Rattle.std.proofs.lemmas.List.Filters.{dedup_is}
use Rattle.std.specs.Prelude.{Option, option_map}
use Rattle.rdf_terms.specs.Quad.{has_right_kinds}
use Rattle.rdf_orders.proofs.CallerLemmas.{first_of_both}
use Rattle.rdf_terms.specs.declared.quad.GraphName.{GraphName}
use Rattle.rdf_store.proofs.NumberLemmas.{term_is, name_is}
use Rattle.rdf_store.specs.Inside.Numbers.{graph_at, term_at}
use Rattle.rdf_store.specs.Inside.Ranks.{AreNumbered, AreRanked, HasRanks, StandsAt, parts_ranked, terms_in}

-- ---- the derived orders

abbrev pub numbered_cmp : Numbered → Numbered → Ordering
numbered_cmp a b = ordering_then (term_cmp a.term.now b.term.now) (nat_cmp a.number b.number)

pub numbered_order_is : (of_numbered.ghosts).cmp ≡ numbered_cmp
numbered_order_is = λ i a b. ordering_then (term_order a.term.now b.term.now i) (nat_cmp a.number b.number)

abbrev pub ranked_cmp : Ranked → Ranked → Ordering
ranked_cmp a b = ordering_then (nat_cmp a.graph b.graph) (ordering_then (nat_cmp a.subject b.subject) (ordering_then (nat_cmp a.predicate b.predicate) (term_cmp a.object.now b.object.now)))

pub ranked_order_is : (of_ranked.ghosts).cmp ≡ ranked_cmp
ranked_order_is = λ i a b. ordering_then (nat_cmp a.graph b.graph) (ordering_then (nat_cmp a.subject b.subject) (ordering_then (nat_cmp a.predicate b.predicate) (term_order a.object.now b.object.now i)))

-- ---- terms that a table holds once rise where they rise with their numbers

module _ (table : List Term) (once : AreHeldOnce table) where
  first_less : (a b : Numbered) → IsIdOf table a.number a.term.now → IsIdOf table b.number b.term.now → numbered_cmp a b ≡ Less → term_cmp a.term.now b.term.now ≡ Less
  first_less a b ia ib e = by (term_cmp a.term.now b.term.now) refl e
    where
      by : (r : Ordering) → term_cmp a.term.now b.term.now ≡ r → ordering_then r (nat_cmp a.number b.number) ≡ Less → r ≡ Less
      by Less at h = refl
      by Greater at h = h
      by Equal at h =
          let same : a.number ≡ b.number = once a.number b.number b.term.now (subst (IsIdOf table a.number) (term_cmp-IsAntisymmetric a.term.now b.term.now at) ia) ib in
          absurd (true≢false (ap is_eq (sym (tied_itself nat_cmp_total a.number) ∙ ap (nat_cmp a.number) same ∙ h)))

  terms_rise : (terms : List Numbered) → AreNumbered table terms → IsStrictlySortedBy numbered_cmp terms → IsStrictlySortedBy term_cmp (terms_in terms)
  terms_rise [] numbered rises = sorted_from_all_adjacent term_cmp_total [] (Blank 0) (λ k lt. absurd (omega arith))
  terms_rise (x ∷ xs) numbered rises = sorted_from_all_adjacent term_cmp_total (terms_in (x ∷ xs)) x.term.now (λ k lt.
      let within : k + 1 < length (x ∷ xs) = omega (arith, lt, length-map (x ∷ xs) (λ (n : Numbered). n.term.now)) in
      let before : k < length (x ∷ xs) = omega (arith, within) in
      (λ i. term_cmp (get_or-map (λ (n : Numbered). n.term.now) (x ∷ xs) k x x.term.now before i) (get_or-map (λ (n : Numbered). n.term.now) (x ∷ xs) (k + 1) x x.term.now within i))
      ∙ first_less (get_or (x ∷ xs) k x) (get_or (x ∷ xs) (k + 1) x) (numbered k x before) (numbered (k + 1) x within) (Less-from_sorted numbered_cmp (x ∷ xs) k (k + 1) x rises (omega arith) within))

-- numbered terms that are sorted, each kept once, are ranked
pub sorted_ranked : (table : List Term) → AreHeldOnce table → (terms sorted each : List Numbered) → AreNumbered table terms → IsPermutation terms sorted → IsSorted (of_numbered.ghosts).cmp sorted
    → IsFiltered (DiffersFromLast (eq_of_numbered.ghosts).eq) [] sorted each → AreRanked table each
sorted_ranked table once terms sorted each numbered moved rises filtered =
    let left : each ≡ dedup (eq_of_numbered.ghosts).eq sorted = dedup_is (eq_of_numbered.ghosts).eq sorted each filtered in
    let are : AreNumbered table each = subst (AreNumbered table) (sym left) (All-dedup (eq_of_numbered.ghosts).eq (λ (n : Numbered). IsIdOf table n.number n.term.now) sorted (All-permutation (λ (n : Numbered). IsIdOf table n.number n.term.now) terms sorted moved numbered)) in
    let total : IsTotalOrder numbered_cmp = subst IsTotalOrder numbered_order_is laws_of_numbered.total-law in
    let strict : IsStrictlySortedBy numbered_cmp each = subst (IsStrictlySortedBy numbered_cmp) (sym left)
    (IsStrictlySortedBy-dedup total (λ x y. laws_of_numbered.matches_eq-law x y ∙ ap (λ cmp. eq_by_cmp cmp x y) numbered_order_is) sorted (subst (λ cmp. IsSorted cmp sorted) numbered_order_is rises)) in
    record { numbered = are; rises = terms_rise table once each are strict }

-- ---- what a rank stands for

pub stands_is : (table : List Term) (terms : List Numbered) (place number : ℕ) → AreNumbered table terms → StandsAt terms place number → term_at (terms_in terms) place ≡ term_at table number
stands_is table terms place number numbered (n, at, same) =
    let here : get_or terms place n ≡ n = get_or_from_slice_get terms place n n at in
    let id : IsIdOf table n.number n.term.now = subst (λ (m : Numbered). IsIdOf table m.number m.term.now) here (numbered place n (slice_get_within terms place n at)) in
    ap (λ o. unwrap_or o (Blank 0)) (slice_get-map (λ (m : Numbered). m.term.now) terms place ∙ ap (option_map (λ (m : Numbered). m.term.now)) at)
    ∙ sym (term_is table number n.term.now (subst (λ k. IsIdOf table k n.term.now) same id))

pub graph_stands_is : (table : List Term) (terms : List Numbered) (place number id : ℕ) → number ≡ id + 1 → AreNumbered table terms → StandsAt terms place id
    → graph_at (terms_in terms) (place + 1) ≡ graph_at table number
graph_stands_is table terms place number id e numbered stands =
    ap (graph_at (terms_in terms)) (add-one place) ∙ ap Named (stands_is table terms place id numbered stands) ∙ name_is table number id e

-- what is made of the places of a ranked quad
pub made_ranked : (ranks : List Term) (r : Ranked) (g : GraphName) (s p o : Term) (q : Option QuadParts) → HasRanks ranks r → g ≡ graph_at ranks r.graph
    → s ≡ term_at ranks r.subject → p ≡ term_at ranks r.predicate → o ≡ r.object.now
    → q ≡ cond (has_right_kinds (record { graph = g; subject = s; predicate = p; object = o })) (Some (record { graph = g; subject = s; predicate = p; object = o })) None
    → q ≡ Some (parts_ranked ranks r)
made_ranked ranks r g s p o q has eg es ep eo e =
    let same : record { graph = g; subject = s; predicate = p; object = o } ≡ parts_ranked ranks r = λ i. record {
      graph = eg i;
      subject = es i;
      predicate = ep i;
      object = eo i;
    } in
    e ∙ ap (λ (x : QuadParts). cond (has_right_kinds x) (Some x) None) same
    ∙ ap (λ b. cond b (Some (parts_ranked ranks r)) None) (first_of_both (has_right_kinds (parts_ranked ranks r)) _ has.sound)

-- ---- one more

pub all_more : {A : Type 0} (P : A → Type 0) (xs ys : List A) (x : A) → ys ≡ xs ++ x ∷ [] → All P xs → P x → All P ys
all_more P xs ys x e all one = subst (All P) (sym e) (All-push P xs x all one)

pub mapped_more : {A B C : Type 0} (f : A → C) (g : B → C) (xs ys : List A) (zs : List B) (x : A) (z : B) → ys ≡ xs ++ x ∷ [] → map f xs ≡ map g zs → f x ≡ g z
    → map f ys ≡ map g (zs ++ z ∷ [])
mapped_more f g xs ys zs x z e before one =
    ap (map f) e ∙ map-append f xs (x ∷ []) ∙ (λ i. before i ++ one i ∷ []) ∙ sym (map-append g zs (z ∷ []))

-- ---- ranks are ordered as the terms are

module _ (ranks : List Term) (rises : IsStrictlySortedBy term_cmp ranks) where
  at_less : (i j : ℕ) → i < j → j < length ranks → term_cmp (term_at ranks i) (term_at ranks j) ≡ Less
  at_less i j lt within =
      (λ k. term_cmp (unwrap_or-slice_get ranks i (Blank 0) k) (unwrap_or-slice_get ranks j (Blank 0) k))
      ∙ Less-from_sorted term_cmp ranks i j (Blank 0) rises lt within

  pub rank_order : (i j : ℕ) → i < length ranks → j < length ranks → nat_cmp i j ≡ term_cmp (term_at ranks i) (term_at ranks j)
  rank_order i j hi hj = elim (cases_lt i j) [
    | inl lt ↦ sym (nat_cmp_is i j Less lt) ∙ sym (at_less i j lt hj)
    | inr ge ↦ elim (cases_lt j i) [
      | inl gt ↦ sym (nat_cmp_is i j Greater gt) ∙ sym (term_cmp_total.antisymm (term_at ranks i) (term_at ranks j) ∙ ap ordering_reverse (at_less j i gt hi))
      | inr le ↦ let same : i ≡ j = omega arith in
          sym (nat_cmp_is i j Equal same) ∙ sym (ap (term_cmp (term_at ranks i)) (ap (term_at ranks) (sym same)) ∙ tied_itself term_cmp_total (term_at ranks i))
    ]
  ]

  graph_order : (i j : ℕ) → i ≤ length ranks → j ≤ length ranks → nat_cmp i j ≡ graph_cmp (graph_at ranks i) (graph_at ranks j)
  graph_order zero zero hi hj = sym (nat_cmp_is 0 0 Equal refl)
  graph_order zero (suc j) hi hj = sym (nat_cmp_is 0 (suc j) Less (omega arith))
  graph_order (suc i) zero hi hj = sym (nat_cmp_is (suc i) 0 Greater (omega arith))
  graph_order (suc i) (suc j) hi hj = one_up i j ∙ rank_order i j (omega arith) (omega arith)
    where
      one_up : (i j : ℕ) → nat_cmp (suc i) (suc j) ≡ nat_cmp i j
      one_up i j = elim (cases_lt i j) [
        | inl lt ↦ sym (nat_cmp_is (suc i) (suc j) Less (omega arith)) ∙ nat_cmp_is i j Less lt
        | inr ge ↦ elim (cases_lt j i) [
          | inl gt ↦ sym (nat_cmp_is (suc i) (suc j) Greater (omega arith)) ∙ nat_cmp_is i j Greater gt
          | inr le ↦ sym (nat_cmp_is (suc i) (suc j) Equal (omega arith)) ∙ nat_cmp_is i j Equal (omega arith)
        ]
      ]

  -- the order of ranks is that of the quads
  pub ranked_order : (a b : Ranked) → HasRanks ranks a → HasRanks ranks b → ranked_cmp a b ≡ quad_cmp (parts_ranked ranks a) (parts_ranked ranks b)
  ranked_order a b ha hb = λ i. ordering_then (graph_order a.graph b.graph ha.graph hb.graph i)
      (ordering_then (rank_order a.subject b.subject ha.subject hb.subject i)
      (ordering_then (rank_order a.predicate b.predicate ha.predicate hb.predicate i) (term_cmp a.object.now b.object.now)))

  -- quads that are sorted by their ranks are in order
  pub ranked_sorted : (all : List Ranked) → All (HasRanks ranks) all → IsSorted ranked_cmp all → IsSorted quad_cmp (map (parts_ranked ranks) all)
  ranked_sorted [] has s k d low high = absurd (omega (arith, high))
  ranked_sorted (x ∷ xs) has s k d low high =
      let within : k + 1 < length (x ∷ xs) = omega (arith, high, length-map (x ∷ xs) (parts_ranked ranks)) in
      let before : k < length (x ∷ xs) = omega (arith, within) in
      (λ i. is_lt (quad_cmp (get_or-map (parts_ranked ranks) (x ∷ xs) (k + 1) x d within i) (get_or-map (parts_ranked ranks) (x ∷ xs) k x d before i)))
      ∙ sym (ap is_lt (ranked_order (get_or (x ∷ xs) (k + 1) x) (get_or (x ∷ xs) k x) (has (k + 1) x within) (has k x before)))
      ∙ s k x low within
