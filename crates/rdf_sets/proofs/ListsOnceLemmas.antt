-- Lists that have each member of a set once.
use Rattle.std.proofs.Common.{◌≡◌, ℕ, suc, ◌+◌, ◌≤◌, Bool, true, false, cond, not, ◌&&◌, ◌||◌, List, [], ◌∷◌, ◌++◌, length, refl, sym, ap, ◌∙◌, subst, arith}
use mathlib.Core.Bool.{true≢false}
use Rattle.std.specs.Prelude.{filter, IsPermutation, IsSorted}
use Rattle.std.specs.List.{dedup_from}
use Rattle.std.specs.declared.cmp.Ordering.TheVariants.{Less, Equal, Greater}
use Rattle.std.specs.declared.cmp.Ordering.{Ordering}
use Rattle.std.specs.Ordering.{eq_by_cmp, is_eq, ordering_reverse}
use Rattle.std.specs.Cmp.{IsTotalOrder}
use Rattle.std.specs.List.Sorted.{IsStrictlySortedBy}
use Rattle.std.proofs.lemmas.List.Kept.{IsStrictlySortedBy-dedup, IsStrictlySortedBy-filter}
use Rattle.std.proofs.lemmas.List.Sorted.{length_permutation, list_any-IsPermutation}
use Rattle.std.specs.FinSet as set
use Rattle.std.specs.FinSet.{contains, from_list, IsAntisymmetric, same_set, contains-retain, len-empty, len-insert}
use Rattle.rdf_terms.specs.Lists.{ListsOnce, ListsSorted}
use Rattle.rdf_sets.specs.Delta.{IsDelta}
use Rattle.rdf_sets.proofs.SortedLemmas.{has_of, as_many, filter_contains, any_join, has, tie_itself, rising_nil}
use Rattle.rdf_sets.proofs.DeltaLemmas.{gained_at, lost_at, not_there}

pub filter_short : {X : Type 0} (p : X → Bool) (xs : List X) → length (filter p xs) ≤ length xs
filter_short p [] = omega arith
filter_short p (x ∷ xs) = elim (p x) as (λ b. length (cond b (x ∷ filter p xs) (filter p xs)) ≤ length (x ∷ xs)) [
  | true ↦ let ih = filter_short p xs in omega arith
  | false ↦ let ih = filter_short p xs in omega arith
]

or_cond : (b : Bool) (m n : ℕ) → m ≤ n → cond b m (m + 1) ≤ suc n
or_cond true m n h = omega arith
or_cond false m n h = omega arith

at_most_cond : (b : Bool) (m n : ℕ) → m ≤ n → n + 1 ≡ cond b m (m + 1) → (b ≡ false) × (n ≡ m)
at_most_cond true m n h e = absurd (omega arith)
at_most_cond false m n h e = (refl, omega arith)

pub kept_or_new : (a b m : Bool) → (((a && m) && not (a && not b)) || ((b && not a) && m)) ≡ (b && m)
kept_or_new true true true = refl
kept_or_new true true false = refl
kept_or_new true false true = refl
kept_or_new true false false = refl
kept_or_new false true m = refl
kept_or_new false false m = refl

pub name_kept_or_new : (a b : Bool) → ((a && not (a && not b)) || (b && not a)) ≡ b
name_kept_or_new true true = refl
name_kept_or_new true false = refl
name_kept_or_new false true = refl
name_kept_or_new false false = refl

pub not_both : (a b m : Bool) → ((b && not a) && m) ≡ true → (a && m) ≡ false
not_both true true m e = absurd (true≢false (sym e))
not_both true false m e = absurd (true≢false (sym e))
not_both false b m e = refl

module _ {K : Type 0} {R : K → K → Ordering} (o : IsTotalOrder R) (apart : IsAntisymmetric R) where
  abbrev pub Once : List K → Type 0
  Once xs = length xs ≡ set.len (from_list {R = R} xs)

  len_le : (xs : List K) → set.len (from_list {R = R} xs) ≤ length xs
  len_le [] = rw len-empty (omega arith)
  len_le (x ∷ xs) = rw (len-insert o (from_list xs) x) (or_cond (contains (from_list xs) x) _ _ (len_le xs))

  once_tail : (x : K) (xs : List K) → Once (x ∷ xs) → (contains (from_list {R = R} xs) x ≡ false) × Once xs
  once_tail x xs h = at_most_cond (contains (from_list {R = R} xs) x) (set.len (from_list {R = R} xs)) (length xs) (len_le xs) (omega arith ∙ h ∙ len-insert o (from_list xs) x)

  once_head : (x : K) (xs : List K) → contains (from_list {R = R} xs) x ≡ false → Once xs → Once (x ∷ xs)
  once_head x xs h d = sym (len-insert o (from_list xs) x ∙ rw (h, ← d) (omega arith))

  once_filter : (p : K → Bool) (xs : List K) → Once xs → Once (filter p xs)
  once_filter p [] d = d
  once_filter p (x ∷ xs) d =
      let t = once_tail x xs d in
      let rest = once_filter p xs t.1 in
      elim (p x) as (λ b. Once (cond b (x ∷ filter p xs) (filter p xs))) [
        | true ↦ once_head x (filter p xs) (filter_contains o apart p xs x ∙ ap (λ b. b && p x) t.0) rest
        | false ↦ rest
      ]

  joined : (xs ys : List K) (q : K) → contains (from_list {R = R} (xs ++ ys)) q ≡ (contains (from_list {R = R} xs) q || contains (from_list {R = R} ys) q)
  joined xs ys q = has_of o apart (xs ++ ys) q ∙ any_join (eq_by_cmp R q) xs ys ∙ (λ i. sym (has_of o apart xs q) i || sym (has_of o apart ys q) i)

  out_left : (a b : Bool) → (a || b) ≡ false → (a ≡ false) × (b ≡ false)
  out_left true b e = absurd (true≢false e)
  out_left false b e = (refl, e)

  flip : (a b : Bool) → (b ≡ true → a ≡ false) → a ≡ true → b ≡ false
  flip a true f e = absurd (true≢false (sym e ∙ f refl))
  flip a false f e = refl

  once_join : (xs ys : List K) → Once xs → Once ys → ((q : K) → contains (from_list {R = R} xs) q ≡ true → contains (from_list {R = R} ys) q ≡ false) → Once (xs ++ ys)
  once_join [] ys d e f = e
  once_join (x ∷ xs) ys d e f =
      let t = once_tail x xs d in
      let here : contains (from_list {R = R} ys) x ≡ false = f x (has_of o apart (x ∷ xs) x ∙ ap (λ b. b || has o apart x xs) (tie_itself o apart x)) in
      once_head x (xs ++ ys) (joined xs ys x ∙ (λ i. t.0 i || here i))
      (once_join xs ys t.1 e (λ q m. f q (has_of o apart (x ∷ xs) q ∙ ap (λ b. eq_by_cmp R q x || b) (sym (has_of o apart xs q) ∙ m) ∙ or-true (eq_by_cmp R q x))))
    where
      or-true : (a : Bool) → (a || true) ≡ true
      or-true true = refl
      or-true false = refl

  pub retained : (s : set.FinSet R) (p : K → Bool) (q : K) → contains (set.retain s p) q ≡ (contains s q && p q)
  retained s p q = contains-retain s p q (λ x e. ap p (sym (apart q x e)))

  -- the matching items of a rising list
  pub lists_matching : (p : K → Bool) (xs : List K) → IsStrictlySortedBy R xs → ListsOnce (set.retain (from_list {R = R} xs) p) (filter p xs)
  lists_matching p xs s =
      let e : from_list {R = R} (filter p xs) ≡ set.retain (from_list xs) p = same_set o apart _ _ (λ q. filter_contains o apart p xs q ∙ sym (retained (from_list xs) p q)) in
      record { all = e; once = as_many o apart (filter p xs) (IsStrictlySortedBy-filter R p xs s) ∙ ap set.len e }

  -- what is kept of one list, and another list that has nothing of the first
  pub lists_both : (v w : set.FinSet R) (keep : K → Bool) (xs ys : List K) → ListsOnce v xs → Once ys → ((q : K) → contains (from_list {R = R} ys) q ≡ true → contains v q ≡ false)
      → ((q : K) → ((contains v q && keep q) || contains (from_list {R = R} ys) q) ≡ contains w q) → ListsOnce w (filter keep xs ++ ys)
  lists_both v w keep xs ys l d f h =
      let at : (q : K) → contains (from_list {R = R} (filter keep xs)) q ≡ (contains v q && keep q) = λ q. filter_contains o apart keep xs q ∙ ap (λ z. contains z q && keep q) l.all in
      let e : from_list {R = R} (filter keep xs ++ ys) ≡ w = same_set o apart _ _ (λ q. joined (filter keep xs) ys q ∙ ap (λ b. b || contains (from_list {R = R} ys) q) (at q) ∙ h q) in
      record {
        all = e;
        once = once_join (filter keep xs) ys (once_filter keep xs (l.once ∙ ap set.len (sym l.all))) d (λ q m. flip (contains v q) (contains (from_list {R = R} ys) q) (f q) (and_left (contains v q) (keep q) (sym (at q) ∙ m))) ∙ ap set.len e;
      }
    where
      and_left : (a b : Bool) → (a && b) ≡ true → a ≡ true
      and_left true b h = refl
      and_left false b h = h

  -- a view over a delta: what lies beneath and wasn't removed, and what was added
  pub staged_once : (u n : set.FinSet R) (a r : List K) (xs : List K) → IsDelta u n a r → IsStrictlySortedBy R a → ListsOnce u xs
      → ListsOnce n (filter (λ x. not (contains (from_list {R = R} r) x)) xs ++ a)
  staged_once u n a r xs d s l =
      lists_both u n (λ x. not (contains (from_list {R = R} r) x)) xs a l (as_many o apart a s)
      (λ q m. not_there (contains u q) (contains n q) (sym (gained_at o apart u n a r d q) ∙ m))
      (λ q. (λ i. (contains u q && not (lost_at o apart u n a r d q i)) || gained_at o apart u n a r d q i) ∙ name_kept_or_new (contains u q) (contains n q))

  -- ---- in order

  eq_reversed : (a : Ordering) → is_eq (ordering_reverse a) ≡ is_eq a
  eq_reversed Less = refl
  eq_reversed Equal = refl
  eq_reversed Greater = refl

  -- nothing is left out of a list without repeats
  kept_all : (k : K) (xs : List K) → Once (k ∷ xs) → dedup_from (eq_by_cmp R) k xs ≡ k ∷ xs
  kept_all k [] d = refl
  kept_all k (x ∷ xs) d =
      let t = once_tail k (x ∷ xs) d in
      let apart_from_next = (out_left (eq_by_cmp R k x) (has o apart k xs) (sym (has_of o apart (x ∷ xs) k) ∙ t.0)).0 in
      let differs : eq_by_cmp R x k ≡ false = ap is_eq (o.antisymm x k) ∙ eq_reversed (R k x) ∙ apart_from_next in
      ap (λ b. cond b (dedup_from (eq_by_cmp R) k xs) (k ∷ dedup_from (eq_by_cmp R) x xs)) differs ∙ ap (λ l. k ∷ l) (kept_all x xs t.1)

  once_rises : (xs : List K) → Once xs → IsSorted R xs → IsStrictlySortedBy R xs
  once_rises [] d s = rising_nil R
  once_rises (x ∷ xs) d s = subst (IsStrictlySortedBy R) (kept_all x xs d) (IsStrictlySortedBy-dedup o (λ _ _. refl) (x ∷ xs) s)

  -- a list of a set's members, brought in order
  pub listed_in_order : (members : set.FinSet R) (xs ys : List K) → ListsOnce members xs → IsPermutation xs ys → IsSorted R ys → ListsSorted members ys
  listed_in_order members xs ys l p s =
      let e : from_list {R = R} ys ≡ members = same_set o apart _ _ (λ q. has_of o apart ys q ∙ sym (list_any-IsPermutation (eq_by_cmp R q) xs ys p) ∙ sym (has_of o apart xs q)) ∙ l.all in
      let many : length ys ≡ set.len members = length_permutation xs ys p ∙ l.once in
      record { lists = record { all = e; once = many }; rises = once_rises ys (many ∙ ap set.len (sym e)) s }
