-- The quads of the named graphs, gathered name by name.
use Rattle.std.proofs.Common.{◌≡◌, ℕ, suc, ◌+◌, ◌≤◌, Bool, true, false, cond, not, ◌&&◌, ◌||◌, List, [], ◌∷◌, ◌++◌, length, refl, sym, ap, ◌∙◌, subst, arith, append_assoc, append-nil, None}
use mathlib.Core.Bool.{true≢false}
use Rattle.std.specs.Prelude.{filter}
use Rattle.std.specs.declared.cmp.Ordering.{Ordering}
use Rattle.std.specs.Cmp.{IsTotalOrder}
use Rattle.std.specs.List.{list_any}
use Rattle.std.specs.Ordering.{eq_by_cmp}
use Rattle.std.proofs.lemmas.List.Folds.{list_any-append}
use Rattle.std.specs.FinSet as set
use Rattle.std.specs.FinSet.{IsAntisymmetric, contains, contains-empty, contains-from_list, from_list, len-empty, len-insert, retain}
use Rattle.rdf_terms.specs.declared.term.Term.{Term}
use Rattle.rdf_terms.specs.declared.quad.GraphName.TheVariants.{Named}
use Rattle.rdf_terms.specs.Quad.{QuadParts}
use Rattle.rdf_terms.specs.Lists.{AppendsOnce, ListsOnce}
use Rattle.rdf_terms.specs.Order.{graph_cmp, quad_cmp, term_cmp}
use Rattle.rdf_terms.specs.OrderLaws.{graph_cmp_total, graph_cmp-IsAntisymmetric, quad_cmp_total, quad_cmp-IsAntisymmetric, term_cmp_total, term_cmp-IsAntisymmetric}
use Rattle.rdf_sets.proofs.CallerLemmas.{lists_both, tie_itself, tie_same}
use Rattle.rdf_dataset.specs.State.{State, IsSound, in_named, matches}
use Rattle.rdf_dataset.proofs.ClearingLemmas.{and_false, any_turned, kept, kept_alike, listed, same}
use Rattle.rdf_dataset.proofs.StoredLemmas.{lists_gained}

-- ---- lists without repeats

module _ {K : Type 0} {R : K → K → Ordering} (o : IsTotalOrder R) (apart : IsAntisymmetric R) where
  abbrev pub Once : List K → Type 0
  Once xs = length xs ≡ set.len (from_list {R = R} xs)

  or_cond : (b : Bool) (m n : ℕ) → m ≤ n → cond b m (m + 1) ≤ suc n
  or_cond true m n h = omega arith
  or_cond false m n h = omega arith

  len_le : (xs : List K) → set.len (from_list {R = R} xs) ≤ length xs
  len_le [] = rw len-empty (omega arith)
  len_le (x ∷ xs) = rw (len-insert o (from_list xs) x) (or_cond (contains (from_list xs) x) _ _ (len_le xs))

  at_most_cond : (b : Bool) (m n : ℕ) → m ≤ n → n + 1 ≡ cond b m (m + 1) → (b ≡ false) × (n ≡ m)
  at_most_cond true m n h e = absurd (omega arith)
  at_most_cond false m n h e = (refl, omega arith)

  once_tail : (x : K) (xs : List K) → Once (x ∷ xs) → (contains (from_list {R = R} xs) x ≡ false) × Once xs
  once_tail x xs h = at_most_cond (contains (from_list {R = R} xs) x) (set.len (from_list {R = R} xs)) (length xs) (len_le xs) (omega arith ∙ h ∙ len-insert o (from_list xs) x)

  found_there : (x : K) (done rest : List K) → list_any (eq_by_cmp R x) (done ++ x ∷ rest) ≡ true
  found_there x [] rest = ap (λ b. b || list_any (eq_by_cmp R x) rest) (tie_itself o apart x)
  found_there x (y ∷ done) rest = ap (λ b. eq_by_cmp R x y || b) (found_there x done rest) ∙ or_true (eq_by_cmp R x y)
    where
      or_true : (b : Bool) → (b || true) ≡ true
      or_true true = refl
      or_true false = refl

  -- an item isn't among those before it
  pub not_before : (x : K) (done rest : List K) → Once (done ++ x ∷ rest) → list_any (eq_by_cmp R x) done ≡ false
  not_before x [] rest h = refl
  not_before x (y ∷ done) rest h =
      let t = once_tail y (done ++ x ∷ rest) h in
      neither (eq_by_cmp R x y) (list_any (eq_by_cmp R x) done)
      (λ e. true≢false (sym (found_there x done rest) ∙ ap (λ z. list_any (eq_by_cmp R z) (done ++ x ∷ rest)) (tie_same o apart x y e) ∙ sym (contains-from_list o (done ++ x ∷ rest) y) ∙ t.0))
      (not_before x done rest t.1)
    where
      neither : (a b : Bool) → ¬ (a ≡ true) → b ≡ false → (a || b) ≡ false
      neither true b h e = absurd (h refl)
      neither false b h e = e

-- ---- the quads of the graphs of some names

abbrev pub of_names : List Term → QuadParts → Bool
of_names ns q = list_any (λ n. eq_by_cmp graph_cmp (Named n) q.graph) ns

-- of the names some are done, each once, and the quads of their graphs have been found
pub record IsGathering (s : State) (rest : List Term) (found : List QuadParts) : Type 0 where
  pub done : List Term
  pub names : ListsOnce s.names (done ++ rest)
  pub quads : ListsOnce (retain s.quads (of_names done)) found

nothing_yet : (s : State) → ListsOnce (retain s.quads (of_names [])) []
nothing_yet s =
    let none : from_list [] ≡ retain s.quads (of_names []) = same _ _ (λ q. contains-empty quad_cmp q ∙ sym (kept s.quads (of_names []) q ∙ and_false (contains s.quads q))) in
    record { all = none; once = sym (len-empty quad_cmp) ∙ ap set.len none }

pub gathering_begins : (s : State) (old all rest : List Term) (found : List QuadParts) → old ≡ [] → AppendsOnce s.names old all → rest ≡ all → found ≡ [] → IsGathering s rest found
gathering_begins s old all rest found none a e f = record {
  done = [];
  names = subst (ListsOnce s.names) (sym e) (lists_gained s.names old all a none);
  quads = subst (ListsOnce (retain s.quads (of_names []))) (sym f) (nothing_yet s);
}

all_kept : {X : Type 0} (xs : List X) → filter (λ _. true) xs ≡ xs
all_kept [] = refl
all_kept (x ∷ xs) = ap (λ l. x ∷ l) (all_kept xs)

pub gathering_goes_on : (s : State) (names rest : List Term) (n : Term) (found more : List QuadParts) → names ≡ n ∷ rest
    → AppendsOnce (retain s.quads (matches (Named n) None None None)) found more → IsGathering s names found → IsGathering s rest more
gathering_goes_on s names rest n found more e a g = record {
  done = g.done ++ n ∷ [];
  names = subst (ListsOnce s.names) (ap (λ l. g.done ++ l) e ∙ sym (append_assoc g.done (n ∷ []) rest)) g.names;
  quads = subst (ListsOnce (retain s.quads (of_names (g.done ++ n ∷ [])))) (ap (λ l. l ++ a.found) (all_kept found) ∙ sym a.appended)
      (lists_both quad_cmp_total quad_cmp-IsAntisymmetric (retain s.quads (of_names g.done)) (retain s.quads (of_names (g.done ++ n ∷ []))) (λ _. true) found a.found g.quads
      (a.each_once.once ∙ ap set.len (sym a.each_once.all)) new_ones both_lists);
}
  where
    once : length (g.done ++ n ∷ rest) ≡ set.len (from_list {R = term_cmp} (g.done ++ n ∷ rest))
    once = subst (λ l. length (g.done ++ l) ≡ set.len (from_list {R = term_cmp} (g.done ++ l))) e (g.names.once ∙ ap set.len (sym g.names.all))

    here : (q : QuadParts) → contains (from_list {R = quad_cmp} a.found) q ≡ (contains s.quads q && (eq_by_cmp graph_cmp (Named n) q.graph && true))
    here q = ap (λ z. contains z q) a.each_once.all ∙ kept s.quads (matches (Named n) None None None) q

    of_this : (c t : Bool) → (c && (t && true)) ≡ true → t ≡ true
    of_this true true h = refl
    of_this true false h = h
    of_this false t h = absurd (true≢false (sym h))

    not_done : (q : QuadParts) → eq_by_cmp graph_cmp (Named n) q.graph ≡ true → of_names g.done q ≡ false
    not_done q t =
        ap (λ x. list_any (λ m. eq_by_cmp graph_cmp (Named m) x) g.done) (sym (tie_same graph_cmp_total graph_cmp-IsAntisymmetric (Named n) q.graph t))
        ∙ any_turned n g.done ∙ not_before term_cmp_total term_cmp-IsAntisymmetric n g.done rest once

    new_ones : (q : QuadParts) → contains (from_list {R = quad_cmp} a.found) q ≡ true → contains (retain s.quads (of_names g.done)) q ≡ false
    new_ones q h =
        kept s.quads (of_names g.done) q
        ∙ ap (λ b. contains s.quads q && b) (not_done q (of_this (contains s.quads q) (eq_by_cmp graph_cmp (Named n) q.graph) (sym (here q) ∙ h)))
        ∙ and_false (contains s.quads q)

    tidied : (c d t : Bool) → (((c && d) && true) || (c && (t && true))) ≡ (c && (d || (t || false)))
    tidied true true t = refl
    tidied true false true = refl
    tidied true false false = refl
    tidied false d t = refl

    both_lists : (q : QuadParts) → ((contains (retain s.quads (of_names g.done)) q && true) || contains (from_list {R = quad_cmp} a.found) q) ≡ contains (retain s.quads (of_names (g.done ++ n ∷ []))) q
    both_lists q =
        (λ i. (kept s.quads (of_names g.done) q i && true) || here q i)
        ∙ tidied (contains s.quads q) (of_names g.done q) (eq_by_cmp graph_cmp (Named n) q.graph)
        ∙ ap (λ b. contains s.quads q && b) (sym (list_any-append (λ m. eq_by_cmp graph_cmp (Named m) q.graph) g.done (n ∷ [])))
        ∙ sym (kept s.quads (of_names (g.done ++ n ∷ [])) q)

-- each graph that has a quad has its name
pub gathering_ends : (s : State) (rest : List Term) (found before after : List QuadParts) → IsSound s → rest ≡ [] → IsGathering s rest found → after ≡ before ++ found → AppendsOnce (retain s.quads in_named) before after
gathering_ends s rest found before after sound r g e = record {
  found = found;
  appended = e;
  each_once = subst (λ z. ListsOnce z found) (kept_alike s.quads (of_names g.done) in_named each) g.quads;
}
  where
    names_are : from_list g.done ≡ s.names
    names_are = sym (ap from_list (ap (λ l. g.done ++ l) r ∙ append-nil g.done)) ∙ g.names.all

    turned_twice : (b d : Bool) → not b ≡ d → b ≡ not d
    turned_twice true d h = ap not h
    turned_twice false d h = ap not h

    each : (q : QuadParts) → contains s.quads q ≡ true → of_names g.done q ≡ in_named q
    each q h = turned_twice _ _ (listed s.names g.done q.graph names_are (sound.named q h))
