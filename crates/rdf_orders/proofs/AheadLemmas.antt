-- The keys from where a run begins, the first of them, and those behind it.
use Rattle.std.proofs.Common.{◌≡◌, ℕ, ◌==◌, Bool, true, false, ◌&&◌, not, List, [], ◌∷◌, filter, length, refl, sym, ap, subst, ◌∙◌, inl, inr}
use Rattle.std.specs.Prelude.{Option, Some}
use mathlib.Core.Bool.{true≢false}
use borrow.Author.Tests.{eqb-true}
use Rattle.std.proofs.lemmas.List.Kept.{IsStrictlySortedBy-filter}
use Rattle.std.proofs.lemmas.Map.Keys.{sorted_head, sorted_tail}
use Rattle.std.proofs.lemmas.Map.Views.{any-filter_same}
use Rattle.std.specs.List.{AllByRecursion, list_any}
use Rattle.std.specs.List.Sorted.{IsStrictlySortedBy}
use Rattle.std.specs.declared.cmp.Ordering.{Ordering}
use Rattle.std.specs.declared.cmp.Ordering.TheVariants.{Less, Equal, Greater}
use Rattle.std.specs.declared.ops.Bound.{Bound}
use Rattle.std.specs.declared.ops.Bound.TheVariants.{Included, Excluded, Unbounded}
use Rattle.std.specs.Ordering.{is_eq, is_gt, is_le, is_lt, eq_by_cmp}
use Rattle.std.specs.Cmp.{tied_itself, upto}
use Rattle.std.specs.BTreeMap.Range.{IsFromStart, IsLeBy, range_contains}
use Rattle.std.specs.BTreeSet.{BTreeSet, contains}
use Rattle.std.specs.FinSet as set
use Rattle.rdf_orders.specs.declared.order.Order.{Order}
use Rattle.rdf_orders.specs.Quads.{IdQuad, IdQuads, key_in, key_cmp, quad_at}
use Rattle.rdf_orders.specs.Runs.{BeginsWith, IsAhead, IsNextKey, NoneAhead, Has}
use Rattle.rdf_orders.specs.Inside.Ahead.{IsKeyFrom, AreKeysFrom, AreKeysAhead, AreKeysBehind}
use Rattle.rdf_orders.specs.Inside.Mirror.{is_key_of}
use Rattle.rdf_orders.proofs.KeyLemmas.{key_cmp_total, quad_at-key_in, prefix_between}
use Rattle.rdf_orders.proofs.TestLemmas.{both, first_of_both, second_of_both, is_either, either_first, either_second}
use Rattle.rdf_orders.proofs.TreeLemmas.{key_in-quad_at, length-key_in, same_key}

abbrev finds : List ℕ → List (List ℕ) → Bool
finds k ks = list_any (eq_by_cmp key_cmp k) ks

tied : (k : List ℕ) → eq_by_cmp key_cmp k k ≡ true
tied k = ap is_eq (tied_itself key_cmp_total k)

-- what holds of each key of a list holds of one that is found there
pub held_where : (P : List ℕ → Type 0) (k : List ℕ) (ks : List (List ℕ)) → AllByRecursion P ks → finds k ks ≡ true → P k
held_where P k [] a e = absurd (true≢false (sym e))
held_where P k (x ∷ ks) a e = elim (is_either (eq_by_cmp key_cmp k x) (finds k ks) e) [
  | inl it ↦ subst P (sym (same_key k x it)) a.0
  | inr more ↦ held_where P k ks a.1 more
]

-- and what holds of each that is found holds of each
pub held_each : (P : List ℕ → Type 0) (ks : List (List ℕ)) → ((k : List ℕ) → finds k ks ≡ true → P k) → AllByRecursion P ks
held_each P [] h = tt
held_each P (k ∷ ks) h = (h k (either_first _ _ (tied k)), held_each P ks (λ x e. h x (either_second (eq_by_cmp key_cmp x k) _ e)))

-- ---- inside a bound

le_in : (r : Ordering) → (is_le r && not false) ≡ true → is_gt r ≡ false
le_in Less e = refl
le_in Equal e = refl
le_in Greater e = absurd (true≢false (sym e))

in_le : (r : Ordering) → is_gt r ≡ false → (is_le r && not false) ≡ true
in_le Less e = refl
in_le Equal e = refl
in_le Greater e = absurd (true≢false e)

lt_in : (r : Ordering) → (is_lt r && not false) ≡ true → r ≡ Less
lt_in Less e = refl
lt_in Equal e = absurd (true≢false (sym e))
lt_in Greater e = absurd (true≢false (sym e))

abbrev within : Bound (List ℕ) → List ℕ → Bool
within start k = range_contains key_cmp start Unbounded k

inside_is : (start : Bound (List ℕ)) (k : List ℕ) → within start k ≡ true → IsFromStart key_cmp start k
inside_is (Included a) k e = le_in (key_cmp a k) e
inside_is (Excluded a) k e = lt_in (key_cmp a k) e
inside_is Unbounded k e = tt

is_inside : (start : Bound (List ℕ)) (k : List ℕ) → IsFromStart key_cmp start k → within start k ≡ true
is_inside (Included a) k h = in_le (key_cmp a k) h
is_inside (Excluded a) k h = ap (λ r. is_lt r && not false) h
is_inside Unbounded k h = refl

-- what is greater than a key inside is inside
later_inside : (start : Bound (List ℕ)) (k x : List ℕ) → IsFromStart key_cmp start k → key_cmp k x ≡ Less → IsFromStart key_cmp start x
later_inside (Included a) k x h l = upto key_cmp_total a k x h (ap is_gt l)
later_inside (Excluded a) k x h l = key_cmp_total.trans a k x h l
later_inside Unbounded k x h l = tt

-- ---- the keys of a tree inside a bound

module _ (quads : IdQuads) (order : Order) (start : Bound (List ℕ)) (s : BTreeSet (List ℕ))
    (mirror : (k : List ℕ) → contains key_cmp s k ≡ is_key_of quads order k) (rises : IsStrictlySortedBy key_cmp s.keys) where
  members : (k : List ℕ) → finds k (filter (within start) s.keys) ≡ (within start k && is_key_of quads order k)
  members k =
      any-filter_same (eq_by_cmp key_cmp k) (within start) (within start k) (λ x e. ap (within start) (sym (same_key k x e))) s.keys
      ∙ ap (λ b. within start k && b) (mirror k)

  from_tree : AreKeysFrom quads order start (filter (within start) s.keys)
  from_tree = record {
    rises = IsStrictlySortedBy-filter key_cmp (within start) s.keys rises;
    each = held_each (IsKeyFrom quads order start) _ (λ k e. record {
      is_key = second_of_both (within start k) _ (sym (members k) ∙ e);
      inside = inside_is start k (first_of_both (within start k) _ (sym (members k) ∙ e));
    });
    all = λ k h. members k ∙ both (is_inside start k h.inside) h.is_key;
  }

  pub keys_from : (keys : List (List ℕ)) → keys ≡ filter (within start) s.keys → AreKeysFrom quads order start keys
  keys_from keys e = subst (AreKeysFrom quads order start) (sym e) from_tree

-- ---- the first key, and those behind it

no_key_twice : (k x : List ℕ) → key_cmp k x ≡ Less → eq_by_cmp key_cmp x k ≡ true → ⊥
no_key_twice k x l it =
    true≢false (sym (tied x) ∙ ap (λ (y : List ℕ). eq_by_cmp key_cmp y x) (same_key x k it) ∙ ap is_eq l)

first_least : (k x : List ℕ) (t : List (List ℕ)) → IsStrictlySortedBy key_cmp (k ∷ t) → finds x (k ∷ t) ≡ true → IsLeBy key_cmp k x
first_least k x t s e = elim (is_either (eq_by_cmp key_cmp x k) (finds x t) e) [
  | inl it ↦ subst (λ (y : List ℕ). IsLeBy key_cmp k y) (sym (same_key x k it)) (ap is_gt (tied_itself key_cmp_total k))
  | inr more ↦ ap is_gt (held_where (λ y. key_cmp k y ≡ Less) x t (sorted_head key_cmp k t s) more)
]

each_behind : (quads : IdQuads) (order : Order) (start : Bound (List ℕ)) (k : List ℕ) (t : List (List ℕ)) → AllByRecursion (IsKeyFrom quads order start) t
    → AllByRecursion (λ y. key_cmp k y ≡ Less) t → AllByRecursion (IsKeyFrom quads order (Excluded k)) t
each_behind quads order start k [] a l = tt
each_behind quads order start k (x ∷ t) a l = (record { is_key = a.0.is_key; inside = l.0 }, each_behind quads order start k t a.1 l.1)

pub behind_first : (quads : IdQuads) (order : Order) (start : Bound (List ℕ)) (k : List ℕ) (t : List (List ℕ)) → AreKeysFrom quads order start (k ∷ t) → AreKeysBehind quads order k t
behind_first quads order start k t a = record {
  rises = sorted_tail key_cmp k t a.rises;
  each = each_behind quads order start k t a.each.1 (sorted_head key_cmp k t a.rises);
  all = λ x h. elim (is_either (eq_by_cmp key_cmp x k) (finds x t)
      (a.all x (record { is_key = h.is_key; inside = later_inside start k x a.each.0.inside h.inside }))) [
        | inl it ↦ absurd (no_key_twice k x h.inside it)
        | inr more ↦ more
      ];
}

-- the place moves on to the first key behind it, and stays where there is none
pub behind_moved : (quads : IdQuads) (order : Order) (key k : List ℕ) (keys t : List (List ℕ)) → keys ≡ k ∷ t → AreKeysBehind quads order key keys
    → AreKeysBehind quads order k t
behind_moved quads order key k keys t e a = behind_first quads order (Excluded key) k t (subst (AreKeysBehind quads order key) e a)

pub behind_last : (quads : IdQuads) (order : Order) (key : List ℕ) (keys t : List (List ℕ)) → keys ≡ [] → t ≡ [] → AreKeysBehind quads order key keys
    → AreKeysBehind quads order key t
behind_last quads order key keys t e n a = subst (AreKeysBehind quads order key) (e ∙ sym n) a

-- where the run with the prefix goes on
pub goes_on_behind : (quads : IdQuads) (order : Order) (prefix key : List ℕ) (keys : List (List ℕ)) → BeginsWith prefix key → AreKeysBehind quads order key keys
    → AreKeysAhead quads order prefix (Some key) keys
goes_on_behind quads order prefix key keys begins behind = record {
  start = Excluded key;
  starts = record {
    least = key;
    begins = begins;
    reaches = λ k e a. a.later;
    from_least = λ k l. ap is_gt l;
    later = λ k l. l;
  };
  from = behind;
}

-- ---- what the first key ahead says

module _ (quads : IdQuads) (order : Order) (prefix : List ℕ) (after : Option (List ℕ)) where
  ahead_found : (keys : List (List ℕ)) → (a : AreKeysAhead quads order prefix after keys) → (q : IdQuad) → Has quads q → IsAhead prefix after (key_in order q) → finds (key_in order q) keys ≡ true
  ahead_found keys a q held ahead = a.from.all (key_in order q) (record {
    is_key = both (length-key_in order q) (ap (set.contains quads) (quad_at-key_in order q) ∙ held);
    inside = a.starts.reaches (key_in order q) (eqb-true (length (key_in order q)) 4 (length-key_in order q)) ahead;
  })

  pub none_ahead : AreKeysAhead quads order prefix after [] → NoneAhead quads order prefix after
  none_ahead a q held ahead = true≢false (sym (ahead_found [] a q held ahead))

  module _ (k : List ℕ) (t : List (List ℕ)) (a : AreKeysAhead quads order prefix after (k ∷ t)) where
    pub four_numbers : length k ≡ 4
    four_numbers = eqb-true (length k) 4 (first_of_both (length k == 4) _ a.from.each.0.is_key)

    least : (q : IdQuad) → Has quads q → IsAhead prefix after (key_in order q) → IsLeBy key_cmp k (key_in order q)
    least q held ahead = first_least k (key_in order q) t a.from.rises (ahead_found (k ∷ t) a q held ahead)

    pub first_is_next : BeginsWith prefix k → IsNextKey quads order prefix after k
    first_is_next begins = record {
      quad = quad_at order k;
      has = second_of_both (length k == 4) _ a.from.each.0.is_key;
      is = sym (key_in-quad_at order k four_numbers);
      ahead = record { begins = begins; later = a.starts.later k a.from.each.0.inside };
      least = least;
    }

    pub none_behind_run : ¬ BeginsWith prefix k → NoneAhead quads order prefix after
    none_behind_run not q held ahead =
        not (prefix_between prefix a.starts.least k (key_in order q) a.starts.begins ahead.begins (a.starts.from_least k a.from.each.0.inside) (least q held ahead))

    pub behind_next : AreKeysBehind quads order k t
    behind_next = behind_first quads order a.start k t a.from
