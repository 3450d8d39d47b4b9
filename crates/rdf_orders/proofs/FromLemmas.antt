-- The keys of the quads of a graph and of those with greater numbers.
use Rattle.std.proofs.Common.{◌≡◌, ℕ, ◌==◌, ◌<◌, ◌≤◌, true, false, leb, List, [], ◌∷◌, map, length, refl, sym, subst, ◌∙◌, arith, inl, inr}
use Rattle.std.proofs.lemmas.Bool.{le-leb, leb-true}
use borrow.Author.Tests.{eqb-true}
use Rattle.std.specs.List.{list_any}
use Rattle.std.specs.List.Sorted.{IsStrictlySortedBy}
use Rattle.std.specs.declared.cmp.Ordering.{Ordering}
use Rattle.std.specs.declared.cmp.Ordering.TheVariants.{Less, Equal, Greater}
use Rattle.std.specs.declared.ops.Bound.TheVariants.{Included}
use Rattle.std.specs.Ordering.{is_gt, nat_cmp, eq_by_cmp, ordering_then, MatchOrdering}
use Rattle.std.specs.Cmp.{both_ways, ranks}
use Rattle.std.specs.FinSet as set
use Rattle.std.specs.FinSet.{contains-from_list, same_set}
use Rattle.rdf_terms.specs.Lists.{ListsSorted}
use Rattle.rdf_orders.specs.declared.order.Order.TheVariants.{Spo}
use Rattle.rdf_orders.specs.Quads.{IdQuads, is_from, key_cmp, key_in, quad_of}
use Rattle.rdf_orders.specs.Contents.{ListsKeys}
use Rattle.rdf_orders.specs.Inside.Ahead.{AreKeysFrom, IsKeyFrom}
use Rattle.rdf_orders.proofs.AheadLemmas.{held_where}
use Rattle.rdf_orders.proofs.KeyLemmas.{contains_kept, first_decides, id_quad_cmp_total, id_quad_cmp-IsAntisymmetric}
use Rattle.rdf_orders.proofs.NextLemmas.{zeros_least}
use Rattle.rdf_orders.proofs.SetLemmas.{lists_sorted}
use Rattle.rdf_orders.proofs.TestLemmas.{both, first_of_both, second_of_both}
use Rattle.rdf_orders.proofs.TreeLemmas.{four_in, length-key_in, members_by_key, rising_by_keys}

-- the least key of a graph
abbrev pub least_of : ℕ → List ℕ
least_of g = g ∷ 0 ∷ 0 ∷ 0 ∷ []

not_greater : (x y : ℕ) (r : Ordering) → x ≤ y → is_gt r ≡ false → is_gt (ordering_then (nat_cmp x y) r) ≡ false
not_greater x y r le e =
    elim (nat_cmp x y) as (λ o. MatchOrdering o (x < y) (x ≡ y) (y < x) → is_gt (ordering_then o r) ≡ false) [
      | Less ↦ λ _. refl
      | Equal ↦ λ _. e
      | Greater ↦ λ l. absurd (omega arith)
    ] (ranks x y)

-- four numbers are not less than it where the first of them isn't less than the graph
graph_reached : (g : ℕ) (k : List ℕ) → length k ≡ 4 → is_gt (key_cmp (least_of g) k) ≡ false → leb g (quad_of k).graph ≡ true
graph_reached g [] e h = absurd (omega arith)
graph_reached g (x ∷ k) e h =
    le-leb g x (elim (first_decides g x (key_cmp (0 ∷ 0 ∷ 0 ∷ []) k) h) as (λ _. g ≤ x) [
      | inl l ↦ omega (arith, l)
      | inr l ↦ omega (arith, l.0)
    ])

reaches_graph : (g : ℕ) (k : List ℕ) → length k ≡ 4 → leb g (quad_of k).graph ≡ true → is_gt (key_cmp (least_of g) k) ≡ false
reaches_graph g [] e h = absurd (omega arith)
reaches_graph g (x ∷ k) e h = not_greater g x (key_cmp (0 ∷ 0 ∷ 0 ∷ []) k) (leb-true g x h) (zeros_least 3 k (omega arith))

module _ (quads : IdQuads) (g : ℕ) (keys : List (List ℕ)) (a : AreKeysFrom quads Spo (Included (least_of g)) keys) where
  key_there : (k : List ℕ) → list_any (eq_by_cmp key_cmp k) keys ≡ true → IsKeyFrom quads Spo (Included (least_of g)) k
  key_there k e = held_where (IsKeyFrom quads Spo (Included (least_of g))) k keys a.each e

  four : (k : List ℕ) → list_any (eq_by_cmp key_cmp k) keys ≡ true → length k ≡ 4
  four k e = eqb-true (length k) 4 (first_of_both (length k == 4) _ (key_there k e).is_key)

  quads_there : set.from_list (map quad_of keys) ≡ set.retain quads (is_from g)
  quads_there = same_set id_quad_cmp_total id_quad_cmp-IsAntisymmetric _ _ (λ q.
      contains-from_list id_quad_cmp_total (map quad_of keys) q
      ∙ members_by_key keys four q
      ∙ both_ways _ _
      (λ e. both (second_of_both (length (key_in Spo q) == 4) _ (key_there (key_in Spo q) e).is_key) (graph_reached g (key_in Spo q) refl (key_there (key_in Spo q) e).inside))
      (λ e. a.all (key_in Spo q) (record {
        is_key = both (length-key_in Spo q) (first_of_both (set.contains quads q) _ e);
        inside = reaches_graph g (key_in Spo q) refl (second_of_both (set.contains quads q) _ e);
      }))
      ∙ sym (contains_kept quads (is_from g) q))

  pub keys_from_listed : ListsKeys (set.retain quads (is_from g)) keys
  keys_from_listed =
      let are : map (key_in Spo) (map quad_of keys) ≡ keys = four_in keys four in
      record {
        found = map quad_of keys;
        are_keys = sym are;
        sorted = subst (λ s. ListsSorted s (map quad_of keys)) quads_there
            (lists_sorted id_quad_cmp_total id_quad_cmp-IsAntisymmetric (map quad_of keys) (rising_by_keys (map quad_of keys) (subst (IsStrictlySortedBy key_cmp) (sym are) a.rises)));
      }
