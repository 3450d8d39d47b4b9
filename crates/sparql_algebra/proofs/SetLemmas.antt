-- Lists that have each member of a set once.
use Rattle.std.proofs.Common.{◌≡◌, ℕ, suc, ◌+◌, ◌≤◌, Bool, true, false, cond, ◌&&◌, ◌||◌, List, [], ◌∷◌, length, refl, sym, ap, ◌∙◌, arith}
use Rattle.std.specs.declared.cmp.Ordering.{Ordering}
use Rattle.std.specs.Ordering.{eq_by_cmp, is_eq}
use Rattle.std.specs.Cmp.{IsTotalOrder, Equal-is, tied_itself}
use Rattle.std.specs.List.{sum_by, count_by, list_all, list_any}
use Rattle.std.proofs.lemmas.List.Sums.{sum_by-cons}
use Rattle.std.specs.FinSet as set
use Rattle.std.specs.FinSet.{IsAntisymmetric, contains, from_list, contains-from_list, contains-items, len-empty, len-insert, same_set}
use Rattle.rdf_dataset.specs.Sorted.{ListsOnce}
use Rattle.sparql_algebra.specs.Bags.{SameBag}
use Rattle.sparql_algebra.specs.Listing.{distinct_by, listed}
use Rattle.sparql_algebra.proofs.Sums.{one, sums_from_counts}
use Rattle.sparql_algebra.proofs.TruthLemmas.{or_left, or_right}

cond_short : (b : Bool) (m n : ℕ) → m ≤ n → cond b m (m + 1) ≤ suc n
cond_short true m n h = omega arith
cond_short false m n h = omega arith

cond_long : (b : Bool) (m n : ℕ) → m ≤ n → n + 1 ≡ cond b m (m + 1) → (b ≡ false) × (n ≡ m)
cond_long true m n h e = absurd (omega arith)
cond_long false m n h e = (refl, omega arith)

module _ {K : Type 0} {R : K → K → Ordering} (o : IsTotalOrder R) (apart : IsAntisymmetric R) where
  abbrev pub has : List K → K → Bool
  has xs q = list_any (eq_by_cmp R q) xs

  pub own : (x : K) → eq_by_cmp R x x ≡ true
  own x = ap is_eq (tied_itself o x)

  pub same_is : (x y : K) → eq_by_cmp R x y ≡ true → x ≡ y
  same_is x y e = apart x y ((Equal-is (R x y)).0 e)

  abbrev IsOnce : List K → Type 0
  IsOnce xs = length xs ≡ set.len (from_list {R = R} xs)

  len_le : (xs : List K) → set.len (from_list {R = R} xs) ≤ length xs
  len_le [] = omega (arith, len-empty R)
  len_le (x ∷ xs) = rw (len-insert o (from_list xs) x) (cond_short (contains (from_list xs) x) _ _ (len_le xs))

  once_tail : (x : K) (xs : List K) → IsOnce (x ∷ xs) → (contains (from_list {R = R} xs) x ≡ false) × IsOnce xs
  once_tail x xs h = cond_long (contains (from_list {R = R} xs) x) (set.len (from_list {R = R} xs)) (length xs) (len_le xs) (omega arith ∙ h ∙ len-insert o (from_list xs) x)

  once_counts : (xs : List K) → IsOnce xs → (q : K) → count_by (eq_by_cmp R q) xs ≡ one (has xs q)
  once_counts [] h q = refl
  once_counts (x ∷ xs) h q = by_head (eq_by_cmp R q x) refl (once_counts xs (once_tail x xs h).1 q)
    where
      rest : (contains (from_list {R = R} xs) x ≡ false) × IsOnce xs
      rest = once_tail x xs h

      counted : count_by (eq_by_cmp R q) (x ∷ xs) ≡ one (eq_by_cmp R q x) + count_by (eq_by_cmp R q) xs
      counted = sum_by-cons _ x xs

      by_head : (b : Bool) → eq_by_cmp R q x ≡ b → count_by (eq_by_cmp R q) xs ≡ one (has xs q) →
          count_by (eq_by_cmp R q) (x ∷ xs) ≡ one (b || has xs q)
      by_head true e r =
          let z : one (eq_by_cmp R q x) ≡ 1 = ap one e in
          let absent : has xs q ≡ false =
          sym (contains-from_list o xs q) ∙ ap (contains (from_list {R = R} xs)) (same_is q x e) ∙ rest.0 in
          let none : count_by (eq_by_cmp R q) xs ≡ 0 = r ∙ ap one absent in
          omega (arith, counted, z, none)
      by_head false e r =
          let z : one (eq_by_cmp R q x) ≡ 0 = ap one e in
          omega (arith, counted, z, r)

  pub listed_has : (members : set.FinSet R) (xs : List K) → ListsOnce members xs → (q : K) → has xs q ≡ contains members q
  listed_has members xs h q = sym (contains-from_list o xs q) ∙ ap (λ s. contains s q) h.all

  pub listed_counts : (members : set.FinSet R) (xs : List K) → ListsOnce members xs → (q : K) → count_by (eq_by_cmp R q) xs ≡ one (contains members q)
  listed_counts members xs h q = once_counts xs (h.once ∙ ap set.len (sym h.all)) q ∙ ap one (listed_has members xs h q)

  pub listed_same : (members : set.FinSet R) (xs ys : List K) → ListsOnce members xs → ListsOnce members ys → SameBag xs ys
  listed_same members xs ys h k =
      sums_from_counts (eq_by_cmp R) same_is own xs ys (λ q. listed_counts members xs h q ∙ sym (listed_counts members ys k q))

  -- ---- a fact of each item

  pub any_on : (p q : K → Bool) (xs : List K) → ((x : K) → has xs x ≡ true → p x ≡ q x) → list_any p xs ≡ list_any q xs
  any_on p q [] h = refl
  any_on p q (x ∷ xs) h =
      ap (λ b. b || list_any p xs) (h x (or_left (eq_by_cmp R x x) _ (own x)))
      ∙ ap (λ b. q x || b) (any_on p q xs (λ y e. h y (or_right (eq_by_cmp R y x) _ e)))

  pub sum_on : (f g : K → ℕ) (xs : List K) → ((x : K) → has xs x ≡ true → f x ≡ g x) → sum_by f xs ≡ sum_by g xs
  sum_on f g [] h = refl
  sum_on f g (x ∷ xs) h =
      omega (
        arith,
        sum_by-cons f x xs,
        sum_by-cons g x xs,
        h x (or_left (eq_by_cmp R x x) _ (own x)),
        sum_on f g xs (λ y e. h y (or_right (eq_by_cmp R y x) _ e)),
      )

  pub all_on : (p : K → Bool) (xs : List K) → ((x : K) → has xs x ≡ true → p x ≡ true) → list_all p xs ≡ true
  all_on p [] h = refl
  all_on p (x ∷ xs) h =
      ap (λ b. b && list_all p xs) (h x (or_left (eq_by_cmp R x x) _ (own x))) ∙ all_on p xs (λ y e. h y (or_right (eq_by_cmp R y x) _ e))

  -- ---- there is such a list

  abbrev once : List K → List K
  once = distinct_by R

  has_once : (q : K) (xs : List K) → has (once xs) q ≡ has xs q
  has_once q [] = refl
  has_once q (x ∷ xs) = by_test (has xs x) refl (has_once q xs)
    where
      taken : (b : Bool) → eq_by_cmp R q x ≡ b → has xs x ≡ true → has xs q ≡ (b || has xs q)
      taken true e h = ap (has xs) (same_is q x e) ∙ h
      taken false e h = refl

      by_test : (b : Bool) → has xs x ≡ b → has (once xs) q ≡ has xs q → has (cond b (once xs) (x ∷ once xs)) q ≡ (eq_by_cmp R q x || has xs q)
      by_test true h r = r ∙ taken (eq_by_cmp R q x) refl h
      by_test false h r = ap (λ b. eq_by_cmp R q x || b) r

  once_is : (xs : List K) → IsOnce (once xs)
  once_is [] = omega (arith, len-empty R)
  once_is (x ∷ xs) = by_test (has xs x) refl (once_is xs)
    where
      by_test : (b : Bool) → has xs x ≡ b → IsOnce (once xs) → IsOnce (cond b (once xs) (x ∷ once xs))
      by_test true e h = h
      by_test false e h =
          let absent : contains (from_list {R = R} (once xs)) x ≡ false = contains-from_list o (once xs) x ∙ has_once x xs ∙ e in
          let more : set.len (from_list {R = R} (x ∷ once xs)) ≡ set.len (from_list {R = R} (once xs)) + 1 =
          len-insert o (from_list (once xs)) x ∙ ap (λ b. cond b (set.len (from_list {R = R} (once xs))) (set.len (from_list {R = R} (once xs)) + 1)) absent in
          omega (arith, h, more)

  pub listed_once : (members : set.FinSet R) → ListsOnce members (listed members)
  listed_once members =
      let whole : from_list {R = R} (once (set.items members)) ≡ members =
      same_set o apart _ _ (λ q. contains-from_list o (once (set.items members)) q ∙ has_once q (set.items members) ∙ sym (contains-items members q)) in
      record { all = whole; once = once_is (set.items members) ∙ ap set.len whole }
