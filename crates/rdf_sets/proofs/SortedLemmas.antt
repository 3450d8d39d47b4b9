-- Strictly rising lists, the sets of their items, and what an edit makes of both.
use Rattle.std.proofs.Common.{◌≡◌, ℕ, zero, suc, ◌+◌, ◌<◌, ◌≤◌, Bool, true, false, cond, not, ◌&&◌, ◌||◌, List, [], ◌∷◌, ◌++◌, length, take, drop, get_or, refl, sym, ap, ◌∙◌, subst, arith, length-append, length-drop, length-take, ◌-◌, Result, Ok, Err, IfOk, IfErr, is_ok, Option, Some, None, MatchOption, reverse}
use Rattle.std.specs.Prelude.{filter}
use Rattle.std.specs.declared.cmp.Ordering.{Ordering}
use Rattle.std.specs.declared.cmp.Ordering.TheVariants.{Less, Equal, Greater}
use Rattle.std.specs.Ordering.{eq_by_cmp, is_eq, is_lt, ordering_reverse}
use Rattle.std.specs.Cmp.{IsTotalOrder, Equal-is, tied_itself}
use Rattle.std.specs.List.{AllByRecursion, AllWithin, list_any, slice_get}
use Rattle.std.specs.Option.{option_to_list}
use Rattle.std.proofs.lemmas.List.{reverse-append, append-nil, append_cancel_left, nil_from_length}
use Rattle.std.proofs.lemmas.Option.{slice_get_within, get_or_from_slice_get, slice_get-get_or}
use Rattle.std.proofs.lemmas.List.Sorted.{list_any-IsPermutation, IsPermutation-reverse, IsPermutation-sym}
use Rattle.std.specs.List.Sorted.{IsStrictlySortedBy, IsSortedBy, IsBinarySearchResult, IsSearchInRange}
use Rattle.std.proofs.lemmas.List.Sorted.{searchable_from_sorted}
use Rattle.std.proofs.lemmas.Map.Keys.{Less-from_sorted}
use Rattle.std.proofs.lemmas.List.{take-append-drop, append_assoc}
use Rattle.std.specs.FinSet as set
use Rattle.std.specs.FinSet.{contains, from_list, IsAntisymmetric, same_set, contains-from_list, contains-insert, contains-remove, contains-union, contains-difference, contains-empty, len-empty, len-insert}
use Rattle.rdf_sets.specs.Inside.Places.{IsFoundAt, IsGapAt}
use Rattle.rdf_sets.specs.Inside.Merging.{PopsGreatest, IsMerging}
use Rattle.rdf_terms.specs.Lists.{ListsOnce, ListsSorted}

-- ---- a fact of each item

module _ {X : Type 0} (P : X → Type 0) where
  pub all_take : (i : ℕ) (xs : List X) → AllWithin P xs 0 i → i ≤ length xs → AllByRecursion P (take i xs)
  all_take zero xs w h = tt
  all_take (suc i) [] w h = absurd (omega arith)
  all_take (suc i) (x ∷ xs) w h = (w 0 x (omega arith) (omega arith), all_take i xs (λ k d _ l. w (suc k) d (omega arith) (omega arith)) (omega arith))

  pub all_drop : (i : ℕ) (xs : List X) → AllWithin P xs i (length xs) → AllByRecursion P (drop i xs)
  all_drop zero [] w = tt
  all_drop zero (x ∷ xs) w = (w 0 x (omega arith) (omega arith), all_drop zero xs (λ k d _ l. w (suc k) d (omega arith) (omega arith)))
  all_drop (suc i) [] w = tt
  all_drop (suc i) (x ∷ xs) w = all_drop i xs (λ k d a l. w (suc k) d (omega arith) (omega arith))

  pub all_join : (xs ys : List X) → AllByRecursion P xs → AllByRecursion P ys → AllByRecursion P (xs ++ ys)
  all_join [] ys a b = b
  all_join (x ∷ xs) ys a b = (a.0, all_join xs ys a.1 b)

  pub all_left : (xs ys : List X) → AllByRecursion P (xs ++ ys) → AllByRecursion P xs
  all_left [] ys a = tt
  all_left (x ∷ xs) ys a = (a.0, all_left xs ys a.1)

  pub all_right : (xs ys : List X) → AllByRecursion P (xs ++ ys) → AllByRecursion P ys
  all_right [] ys a = a
  all_right (x ∷ xs) ys a = all_right xs ys a.1

pub all_map : {X : Type 0} (P Q : X → Type 0) → ((x : X) → P x → Q x) → (xs : List X) → AllByRecursion P xs → AllByRecursion Q xs
all_map P Q f [] a = tt
all_map P Q f (x ∷ xs) a = (f x a.0, all_map P Q f xs a.1)

pub all_both : {X : Type 0} (P Q C : X → Type 0) → ((x : X) → P x → Q x → C x) → (xs : List X) → AllByRecursion P xs → AllByRecursion Q xs → AllByRecursion C xs
all_both P Q C f [] a b = tt
all_both P Q C f (x ∷ xs) a b = (f x a.0 b.0, all_both P Q C f xs a.1 b.1)

-- ---- rising lists

module _ {K : Type 0} (R : K → K → Ordering) where
  abbrev pub Below : K → List K → Type 0
  Below x ys = AllByRecursion (λ y. R x y ≡ Less) ys

  pub rising_nil : IsStrictlySortedBy R []
  unfolding IsStrictlySortedBy
  rising_nil = tt

  pub rising_cons : (x : K) (xs : List K) → Below x xs → IsStrictlySortedBy R xs → IsStrictlySortedBy R (x ∷ xs)
  unfolding IsStrictlySortedBy
  rising_cons x xs b s = (b, s)

  pub rising_head : (x : K) (xs : List K) → IsStrictlySortedBy R (x ∷ xs) → Below x xs
  unfolding IsStrictlySortedBy
  rising_head x xs s = s.0

  pub rising_tail : (x : K) (xs : List K) → IsStrictlySortedBy R (x ∷ xs) → IsStrictlySortedBy R xs
  unfolding IsStrictlySortedBy
  rising_tail x xs s = s.1

  pub rising_join : (xs ys : List K) → IsStrictlySortedBy R xs → IsStrictlySortedBy R ys → AllByRecursion (λ x. Below x ys) xs → IsStrictlySortedBy R (xs ++ ys)
  rising_join [] ys s t a = t
  rising_join (x ∷ xs) ys s t a =
      rising_cons x (xs ++ ys) (all_join (λ y. R x y ≡ Less) xs ys (rising_head x xs s) a.0) (rising_join xs ys (rising_tail x xs s) t a.1)

  pub rising_left : (xs ys : List K) → IsStrictlySortedBy R (xs ++ ys) → IsStrictlySortedBy R xs
  rising_left [] ys s = rising_nil
  rising_left (x ∷ xs) ys s =
      rising_cons x xs (all_left (λ y. R x y ≡ Less) xs ys (rising_head x (xs ++ ys) s)) (rising_left xs ys (rising_tail x (xs ++ ys) s))

  pub rising_right : (xs ys : List K) → IsStrictlySortedBy R (xs ++ ys) → IsStrictlySortedBy R ys
  rising_right [] ys s = s
  rising_right (x ∷ xs) ys s = rising_right xs ys (rising_tail x (xs ++ ys) s)

  pub rising_across : (xs ys : List K) → IsStrictlySortedBy R (xs ++ ys) → AllByRecursion (λ x. Below x ys) xs
  rising_across [] ys s = tt
  rising_across (x ∷ xs) ys s = (all_right (λ y. R x y ≡ Less) xs ys (rising_head x (xs ++ ys) s), rising_across xs ys (rising_tail x (xs ++ ys) s))

  -- x goes in between the two parts of a rising list
  pub rising_between : (xs ys : List K) (x : K) → AllByRecursion (λ y. R y x ≡ Less) xs → Below x ys → IsStrictlySortedBy R (xs ++ ys) → IsStrictlySortedBy R (xs ++ x ∷ ys)
  rising_between xs ys x a b s =
      rising_join xs (x ∷ ys) (rising_left xs ys s) (rising_cons x ys b (rising_right xs ys s))
      (all_both (λ y. R y x ≡ Less) (λ y. Below y ys) (λ y. Below y (x ∷ ys)) (λ y p q. (p, q)) xs a (rising_across xs ys s))

-- ---- a list's items by a test

module _ {X : Type 0} (p : X → Bool) where
  pub or_assoc : (a b c : Bool) → (a || (b || c)) ≡ ((a || b) || c)
  or_assoc true b c = refl
  or_assoc false b c = refl

  pub any_join : (xs ys : List X) → list_any p (xs ++ ys) ≡ (list_any p xs || list_any p ys)
  any_join [] ys = refl
  any_join (x ∷ xs) ys = ap (λ b. p x || b) (any_join xs ys) ∙ or_assoc (p x) _ _

  pub none_by : (xs : List X) → AllByRecursion (λ x. p x ≡ false) xs → list_any p xs ≡ false
  none_by [] a = refl
  none_by (x ∷ xs) a = rw a.0 (none_by xs a.1)

not_equal : (r : Ordering) → r ≡ Less → is_eq r ≡ false
not_equal r e = ap is_eq e

module _ {K : Type 0} {R : K → K → Ordering} (o : IsTotalOrder R) (apart : IsAntisymmetric R) where
  abbrev pub has : K → List K → Bool
  has q xs = list_any (eq_by_cmp R q) xs

  pub tie_same : (q x : K) → eq_by_cmp R q x ≡ true → q ≡ x
  tie_same q x e = apart q x ((Equal-is (R q x)).0 e)

  pub tie_itself : (x : K) → eq_by_cmp R x x ≡ true
  tie_itself x = ap is_eq (tied_itself o x)

  greater_is : (x y : K) → R y x ≡ Less → R x y ≡ Greater
  greater_is x y e = o.antisymm x y ∙ ap ordering_reverse e

  pub none_less : (x : K) (ys : List K) → AllByRecursion (λ y. R y x ≡ Less) ys → has x ys ≡ false
  none_less x ys a = none_by (eq_by_cmp R x) ys (all_map (λ y. R y x ≡ Less) (λ y. eq_by_cmp R x y ≡ false) (λ y e. ap is_eq (greater_is x y e)) ys a)

  pub none_greater : (x : K) (ys : List K) → Below R x ys → has x ys ≡ false
  none_greater x ys a = none_by (eq_by_cmp R x) ys (all_map (λ y. R x y ≡ Less) (λ y. eq_by_cmp R x y ≡ false) (λ y e. ap is_eq e) ys a)

  abbrev pub same : (s t : set.FinSet R) → ((q : K) → contains s q ≡ contains t q) → s ≡ t
  same s t h = same_set o apart s t h

  -- a key that ties with x has what x has
  pub at_tie : (s : set.FinSet R) (q x : K) (v : Bool) → contains s x ≡ v → eq_by_cmp R q x ≡ true → contains s q ≡ v
  at_tie s q x v h e = ap (contains s) (tie_same q x e) ∙ h

  with_in : (e a : Bool) → (e ≡ true → a ≡ true) → a ≡ (e || a)
  with_in true a h = h refl
  with_in false a h = refl

  pub insert_there : (s : set.FinSet R) (x : K) → contains s x ≡ true → s ≡ set.insert s x
  insert_there s x h = same _ _ (λ q. with_in (eq_by_cmp R q x) (contains s q) (at_tie s q x true h) ∙ sym (contains-insert o s x q))

  pub has_of : (xs : List K) (q : K) → contains (from_list {R = R} xs) q ≡ has q xs
  has_of xs q = contains-from_list o xs q

  -- ---- by place

  parts : (i : ℕ) (xs : List K) (d : K) → i < length xs → xs ≡ take i xs ++ get_or xs i d ∷ drop (suc i) xs
  parts zero [] d h = absurd (omega arith)
  parts zero (x ∷ xs) d h = refl
  parts (suc i) [] d h = absurd (omega arith)
  parts (suc i) (x ∷ xs) d h = ap (λ t. x ∷ t) (parts i xs d (omega arith))

  pub found_parts : (xs : List K) (x : K) (i : ℕ) → IsFoundAt R xs x i → xs ≡ take i xs ++ x ∷ drop (suc i) xs
  found_parts xs x i f = parts i xs x f.inside ∙ ap (λ z. take i xs ++ z ∷ drop (suc i) xs) (apart _ x (f.ties x))

  or-true : (a b : Bool) → (a || (true || b)) ≡ true
  or-true true b = refl
  or-true false b = refl

  pub found_has : (xs : List K) (x : K) (i : ℕ) → IsFoundAt R xs x i → contains (from_list {R = R} xs) x ≡ true
  found_has xs x i f =
      has_of xs x ∙ ap (λ l. has x l) (found_parts xs x i f) ∙ any_join (eq_by_cmp R x) (take i xs) (x ∷ drop (suc i) xs)
      ∙ ap (λ b. has x (take i xs) || (b || has x (drop (suc i) xs))) (tie_itself x) ∙ or-true (has x (take i xs)) (has x (drop (suc i) xs))

  pub gap_has_not : (xs : List K) (x : K) (i : ℕ) → IsGapAt R xs x i → contains (from_list {R = R} xs) x ≡ false
  gap_has_not xs x i g =
      has_of xs x ∙ ap (λ l. has x l) (sym (take-append-drop i xs)) ∙ any_join (eq_by_cmp R x) (take i xs) (drop i xs)
      ∙ ap (λ b. b || has x (drop i xs)) (none_less x (take i xs) g.before) ∙ none_greater x (drop i xs) g.behind

  -- ---- by a test

  and-false : (b : Bool) → (b && false) ≡ false
  and-false true = refl
  and-false false = refl

  pub has-filter : (p : K → Bool) (xs : List K) (q : K) → has q (filter p xs) ≡ (has q xs && p q)
  has-filter p [] q = refl
  has-filter p (x ∷ xs) q =
      let ih = has-filter p xs q in
      elim (p x) as (λ b. p x ≡ b → has q (cond b (x ∷ filter p xs) (filter p xs)) ≡ ((eq_by_cmp R q x || has q xs) && p q)) [
        | true ↦ λ px. elim (eq_by_cmp R q x) as (λ e. eq_by_cmp R q x ≡ e → (e || has q (filter p xs)) ≡ ((e || has q xs) && p q)) [
          | true ↦ λ e. sym (ap p (tie_same q x e) ∙ px)
          | false ↦ λ _. ih
        ] refl
        | false ↦ λ px. elim (eq_by_cmp R q x) as (λ e. eq_by_cmp R q x ≡ e → has q (filter p xs) ≡ ((e || has q xs) && p q)) [
          | true ↦ λ e. let pq = ap p (tie_same q x e) ∙ px in ih ∙ rw pq (and-false (has q xs)) ∙ sym pq
          | false ↦ λ _. ih
        ] refl
      ] refl

  pub filter_contains : (p : K → Bool) (xs : List K) (q : K) → contains (from_list {R = R} (filter p xs)) q ≡ (contains (from_list {R = R} xs) q && p q)
  filter_contains p xs q = has_of (filter p xs) q ∙ has-filter p xs q ∙ ap (λ b. b && p q) (sym (has_of xs q))

  pub filter_difference : (gone : set.FinSet R) (xs : List K) → from_list {R = R} (filter (λ x. not (contains gone x)) xs) ≡ set.difference (from_list xs) gone
  filter_difference gone xs = same _ _ (λ q. filter_contains (λ x. not (contains gone x)) xs q ∙ sym (contains-difference o (from_list xs) gone q))

  pub searched_has : (xs : List K) (x : K) (r : Result ℕ ℕ) → IfOk r (IsFoundAt R xs x) → IfErr r (IsGapAt R xs x) → is_ok r ≡ contains (from_list {R = R} xs) x
  searched_has xs x (Ok i) f g = sym (found_has xs x i f)
  searched_has xs x (Err i) f g = sym (gap_has_not xs x i g)

  -- ---- what a binary search says

  in_order : (xs : List K) → IsStrictlySortedBy R xs → IsSortedBy (λ a b. is_lt (R a b)) xs
  in_order xs s k d a h = ap is_lt (greater_is (get_or xs (k + 1) d) (get_or xs k d) (Less-from_sorted R xs k (k + 1) d s (omega arith) h))

  pub search_found : (xs : List K) (x : K) (r : Result ℕ ℕ) → IsSearchInRange r (length xs) → IsBinarySearchResult (λ y. R y x) xs r → IfOk r (IsFoundAt R xs x)
  search_found xs x (Ok i) h b = record { inside = h; ties = b }
  search_found xs x (Err i) h b = tt

  less_is : (x y : K) → R y x ≡ Greater → R x y ≡ Less
  less_is x y e = o.antisymm x y ∙ ap ordering_reverse e

  pub search_gap : (xs : List K) (x : K) (r : Result ℕ ℕ) → IsStrictlySortedBy R xs → IsSearchInRange r (length xs) → IsBinarySearchResult (λ y. R y x) xs r → IfErr r (IsGapAt R xs x)
  search_gap xs x (Ok i) s h b = tt
  search_gap xs x (Err i) s h b =
      let p = b (searchable_from_sorted o (λ y. y) xs x (in_order xs s)) in
      record {
        inside = h;
        before = all_take (λ y. R y x ≡ Less) i xs p.0 h;
        behind = all_map (λ y. R y x ≡ Greater) (λ y. R x y ≡ Less) (λ y e. less_is x y e) (drop i xs) (all_drop (λ y. R y x ≡ Greater) i xs p.1);
      }

  -- ---- merges from the ends

  pub or-false : (b : Bool) → (b || false) ≡ b
  or-false true = refl
  or-false false = refl

  any_push : (q : K) (xs : List K) (x : K) → has q (xs ++ x ∷ []) ≡ (has q xs || eq_by_cmp R q x)
  any_push q xs x = any_join (eq_by_cmp R q) xs (x ∷ []) ∙ ap (λ b. has q xs || b) (or-false (eq_by_cmp R q x))

  below_last : (xs : List K) (z y : K) → IsStrictlySortedBy R (xs ++ z ∷ []) → R z y ≡ Less → AllByRecursion (λ w. R w y ≡ Less) (xs ++ z ∷ [])
  below_last xs z y s e =
      all_join (λ w. R w y ≡ Less) xs (z ∷ [])
      (all_map (λ w. Below R w (z ∷ [])) (λ w. R w y ≡ Less) (λ w p. o.trans w z y p.0 e) xs (rising_across R xs (z ∷ []) s)) (e, tt)

  -- what is popped goes before the rest
  reaches : (d rest : List K) (y : K) → IsStrictlySortedBy R ((d ++ y ∷ []) ++ rest) → IsStrictlySortedBy R (d ++ y ∷ rest)
  reaches d rest y s = subst (IsStrictlySortedBy R) (append_assoc d (y ∷ []) rest) s

  or_second : (a e d : Bool) → (a || (d || e)) ≡ (e || (a || d))
  or_second true true d = refl
  or_second true false d = refl
  or_second false true true = refl
  or_second false true false = refl
  or_second false false d = or-false d

  or_first : (a e d : Bool) → ((a || e) || d) ≡ (e || (a || d))
  or_first true true d = refl
  or_first true false d = refl
  or_first false e d = refl

  or_both : (a e d : Bool) → ((a || e) || (d || e)) ≡ (e || (a || d))
  or_both true true d = refl
  or_both true false d = refl
  or_both false true d = refl
  or_both false false d = or-false d

  pub pops_second : (a b d : List K) (y : K) → b ≡ d ++ y ∷ [] → (IsStrictlySortedBy R a → AllByRecursion (λ w. R w y ≡ Less) a) → PopsGreatest R a b a d y
  pops_second a b d y e less = record {
    first = λ rest s t. let u = reaches d rest y (subst (λ l. IsStrictlySortedBy R (l ++ rest)) e t) in rising_between R a rest y (less (rising_left R a rest s)) (rising_head R y rest (rising_right R d (y ∷ rest) u)) s;
    second = λ rest s t. reaches d rest y (subst (λ l. IsStrictlySortedBy R (l ++ rest)) e t);
    members = λ q. ap (λ l. has q a || has q l) e ∙ ap (λ b. has q a || b) (any_push q d y) ∙ or_second (has q a) (eq_by_cmp R q y) (has q d);
    shorter = omega (arith, ap length e, length-append d (y ∷ []));
  }

  pub pops_first : (a b c : List K) (x : K) → a ≡ c ++ x ∷ [] → (IsStrictlySortedBy R b → AllByRecursion (λ w. R w x ≡ Less) b) → PopsGreatest R a b c b x
  pops_first a b c x e less = record {
    first = λ rest s t. reaches c rest x (subst (λ l. IsStrictlySortedBy R (l ++ rest)) e s);
    second = λ rest s t. let u = reaches c rest x (subst (λ l. IsStrictlySortedBy R (l ++ rest)) e s) in rising_between R b rest x (less (rising_left R b rest t)) (rising_head R x rest (rising_right R c (x ∷ rest) u)) t;
    members = λ q. ap (λ l. has q l || has q b) e ∙ ap (λ v. v || has q b) (any_push q c x) ∙ or_first (has q c) (eq_by_cmp R q x) (has q b);
    shorter = omega (arith, ap length e, length-append c (x ∷ []));
  }

  pub pops_both : (a b c d : List K) (x : K) → a ≡ c ++ x ∷ [] → b ≡ d ++ x ∷ [] → PopsGreatest R a b c d x
  pops_both a b c d x e f = record {
    first = λ rest s t. reaches c rest x (subst (λ l. IsStrictlySortedBy R (l ++ rest)) e s);
    second = λ rest s t. reaches d rest x (subst (λ l. IsStrictlySortedBy R (l ++ rest)) f t);
    members = λ q. (λ i. has q (e i) || has q (f i)) ∙ (λ i. any_push q c x i || any_push q d x i) ∙ or_both (has q c) (eq_by_cmp R q x) (has q d);
    shorter = omega (arith, ap length e, length-append c (x ∷ []), ap length f, length-append d (x ∷ []));
  }

  -- ---- what `last` and `pop` say

  last_place : (xs : List K) (z : K) → slice_get xs (length xs - 1) ≡ Some z → xs ≡ take (length xs - 1) xs ++ z ∷ []
  last_place xs z e =
      let h = slice_get_within xs (length xs - 1) z e in
      parts (length xs - 1) xs z h
      ∙ ap (λ w. take (length xs - 1) xs ++ w ∷ drop (suc (length xs - 1)) xs) (get_or_from_slice_get xs (length xs - 1) z z e)
      ∙ ap (λ l. take (length xs - 1) xs ++ z ∷ l) (nil_from_length (drop (suc (length xs - 1)) xs) (length-drop (suc (length xs - 1)) xs ∙ omega arith))

  pub last_popped : (b d : List K) (r : Option K) (y : K) → slice_get b (length b - 1) ≡ Some y → d ≡ take (length b - 1) b → b ≡ d ++ option_to_list r → (r ≡ Some y) × (b ≡ d ++ y ∷ [])
  last_popped b d None y e t p = absurd (omega (arith, slice_get_within b (length b - 1) y e, ap length t, length-take (length b - 1) b, ap length (p ∙ append-nil d)))
  last_popped b d (Some x) y e t p =
      let q = last_place b y e ∙ ap (λ l. l ++ y ∷ []) (sym t) in
      let xy : x ≡ y = one_same x y (append_cancel_left d (x ∷ []) (y ∷ []) (sym p ∙ q)) in (ap Some xy, q)
    where
      one_same : (x y : K) → x ∷ [] ≡ y ∷ [] → x ≡ y
      one_same x y e = cc

  pub last_none : (xs : List K) → slice_get xs (length xs - 1) ≡ None → xs ≡ []
  last_none [] e = refl
  last_none (x ∷ xs) e = absurd (some_none (sym (slice_get-get_or (x ∷ xs) (length (x ∷ xs) - 1) x (omega arith)) ∙ e))
    where
      some_none : Some (get_or (x ∷ xs) (length (x ∷ xs) - 1) x) ≡ None → ⊥
      some_none h = cc

  -- ---- the three ways in which an item comes off

  pub popped_alone : (a b d : List K) (r : Option K) → a ≡ [] → d ≡ take (length b - 1) b → b ≡ d ++ option_to_list r → MatchOption r ((a ≡ []) × (b ≡ [])) (PopsGreatest R a b a d)
  popped_alone a b d None n t p = (n, nil_from_length b (omega (arith, ap length t, length-take (length b - 1) b, ap length (p ∙ append-nil d))))
  popped_alone a b d (Some y) n t p = pops_second a b d y p (λ _. subst (AllByRecursion (λ w. R w y ≡ Less)) (sym n) tt)

  pub popped_first : (a b c : List K) (r : Option K) (x : K) → slice_get a (length a - 1) ≡ Some x → c ≡ take (length a - 1) a → a ≡ c ++ option_to_list r → (IsStrictlySortedBy R b → AllByRecursion (λ w. R w x ≡ Less) b) → MatchOption r ((a ≡ []) × (b ≡ [])) (PopsGreatest R a b c b)
  popped_first a b c r x e t p less =
      let l = last_popped a c r x e t p in
      subst (λ r. MatchOption r ((a ≡ []) × (b ≡ [])) (PopsGreatest R a b c b)) (sym l.0) (pops_first a b c x l.1 less)

  pub popped_second : (a b d : List K) (r : Option K) (y : K) → slice_get b (length b - 1) ≡ Some y → d ≡ take (length b - 1) b → b ≡ d ++ option_to_list r → (IsStrictlySortedBy R a → AllByRecursion (λ w. R w y ≡ Less) a) → MatchOption r ((a ≡ []) × (b ≡ [])) (PopsGreatest R a b a d)
  popped_second a b d r y e t p less =
      let l = last_popped b d r y e t p in
      subst (λ r. MatchOption r ((a ≡ []) × (b ≡ [])) (PopsGreatest R a b a d)) (sym l.0) (pops_second a b d y l.1 less)

  pub popped_both : (a b c d : List K) (r s : Option K) (x y : K) → R x y ≡ Equal → slice_get a (length a - 1) ≡ Some x → c ≡ take (length a - 1) a → a ≡ c ++ option_to_list r → slice_get b (length b - 1) ≡ Some y → d ≡ take (length b - 1) b → b ≡ d ++ option_to_list s → MatchOption r ((a ≡ []) × (b ≡ [])) (PopsGreatest R a b c d)
  popped_both a b c d r s x y tie e t p f u q =
      let l = last_popped a c r x e t p in
      let m = last_popped b d s y f u q in
      subst (λ r. MatchOption r ((a ≡ []) × (b ≡ [])) (PopsGreatest R a b c d)) (sym l.0) (pops_both a b c d x l.1 (m.1 ∙ ap (λ w. d ++ w ∷ []) (sym (apart x y tie))))

  -- the last of a rising list is above the others: x below y makes them all so
  pub all_less : (a : List K) (x y : K) → slice_get a (length a - 1) ≡ Some x → R x y ≡ Less → IsStrictlySortedBy R a → AllByRecursion (λ w. R w y ≡ Less) a
  all_less a x y e l s =
      let p = last_place a x e in
      subst (AllByRecursion (λ w. R w y ≡ Less)) (sym p) (below_last (take (length a - 1) a) x y (subst (IsStrictlySortedBy R) p s) l)

  -- ---- the loop

  or_regroup : (a b c : Bool) → (a || (b || c)) ≡ ((a || b) || c)
  or_regroup true b c = refl
  or_regroup false b c = refl

  pub merge_step : (a b a0 b0 c d done : List K) (x : K) → IsMerging R a0 b0 a b done → PopsGreatest R a b c d x → IsMerging R a0 b0 c d (done ++ x ∷ [])
  merge_step a b a0 b0 c d done x m p = record {
    first = subst (λ l. IsStrictlySortedBy R (c ++ l)) (sym (reverse-append done (x ∷ []))) (p.first (reverse done) m.first m.second);
    second = subst (λ l. IsStrictlySortedBy R (d ++ l)) (sym (reverse-append done (x ∷ []))) (p.second (reverse done) m.first m.second);
    members = λ q. m.members q ∙ ap (λ b. has q done || b) (p.members q) ∙ or_regroup (has q done) (eq_by_cmp R q x) (has q c || has q d) ∙ ap (λ b. b || (has q c || has q d)) (sym (any_push q done x));
  }

  pub merge_start : (a b : List K) → IsStrictlySortedBy R a → IsStrictlySortedBy R b → IsMerging R a b a b []
  merge_start a b s t = record { first = subst (IsStrictlySortedBy R) (sym (append-nil a)) s; second = subst (IsStrictlySortedBy R) (sym (append-nil b)) t; members = λ q. refl }

  pub merge_end : (a0 b0 a b done : List K) → a ≡ [] → b ≡ [] → IsMerging R a0 b0 a b done → IsStrictlySortedBy R (reverse done) × (from_list {R = R} (reverse done) ≡ set.union (from_list a0) (from_list b0))
  merge_end a0 b0 a b done ea eb m = (
    subst (λ l. IsStrictlySortedBy R (l ++ reverse done)) ea m.first,
    same _ _ (λ q. has_of (reverse done) q ∙ list_any-IsPermutation (eq_by_cmp R q) (reverse done) done (IsPermutation-sym done (reverse done) (IsPermutation-reverse done))
        ∙ sym (or-false (has q done)) ∙ sym (m.members q ∙ (λ i. has q done || (has q (ea i) || has q (eb i))))
        ∙ (λ i. sym (has_of a0 q) i || sym (has_of b0 q) i) ∙ sym (contains-union o (from_list a0) (from_list b0) q)),
  )

  pub turned_less : (x y : K) → R x y ≡ Greater → R y x ≡ Less
  turned_less x y e = o.antisymm y x ∙ ap ordering_reverse e

  pub union_nothing : (s t : set.FinSet R) → t ≡ set.empty → s ≡ set.union s t
  union_nothing s t e = same _ _ (λ q. sym (or-false (contains s q)) ∙ ap (λ b. contains s q || b) (sym (ap (λ t. contains t q) e ∙ contains-empty R q)) ∙ sym (contains-union o s t q))

  -- ---- lists

  pub as_many : (xs : List K) → IsStrictlySortedBy R xs → length xs ≡ set.len (from_list {R = R} xs)
  as_many [] s = sym (len-empty R)
  as_many (x ∷ xs) s =
      let out = has_of xs x ∙ none_greater x xs (rising_head R x xs s) in
      let ih = as_many xs (rising_tail R x xs s) in
      sym (len-insert o (from_list xs) x ∙ rw (out, ← ih) (omega arith))

  pub lists_once : (xs : List K) → IsStrictlySortedBy R xs → ListsOnce (from_list {R = R} xs) xs
  lists_once xs s = record { all = refl; once = as_many xs s }

  pub lists_sorted : (xs : List K) → IsStrictlySortedBy R xs → ListsSorted (from_list {R = R} xs) xs
  lists_sorted xs s = record { lists = lists_once xs s; rises = s }
