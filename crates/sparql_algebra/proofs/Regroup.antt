-- A sum over a list is the sum over its distinct elements, each times its count.
use Rattle.std.proofs.Common.{◌≡◌, ℕ, ◌+◌, ◌*◌, ◌<◌, zero, suc, Bool, true, false, cond, ◌&&◌, ◌||◌, not, List, [], ◌∷◌, map, filter, refl, sym, ap, ◌∙◌, arith}
use Rattle.std.specs.List.{sum_by, count_by, list_any}
use Rattle.std.proofs.lemmas.List.Sums.{sum_by-cons}
use Rattle.sparql_values.specs.Mapping.{Mapping, same_mapping, compatible, merge}
use Rattle.sparql_algebra.specs.Solutions.{merges, joins, left_joins, or_alone}
use Rattle.sparql_algebra.specs.Counts.{always, ListsCounted, is_pair, pairs_count, begins_pair}
use Rattle.sparql_algebra.specs.Bags.{once_if_any}
use Rattle.sparql_algebra.proofs.Sums.{one, sum_by-cong, sum_by-filter, sum_by-map, sum_by-flat_map}
use Rattle.sparql_algebra.proofs.TruthLemmas.{both_true}
use Rattle.sparql_algebra.proofs.TermLemmas.{same_mapping_is, same_mapping_own}
use Rattle.sparql_algebra.proofs.CountLemmas.{sum_zero, sum_of_tests, none_counted}

scaled : (b : Bool) (n k : ℕ) → cond b k 0 + n * k ≡ (one b + n) * k
scaled true n k = omega arith
scaled false n k = omega arith

module _ {X : Type 0} where
  pub sum_plus : (f g : X → ℕ) (xs : List X) → sum_by (λ x. f x + g x) xs ≡ sum_by f xs + sum_by g xs
  sum_plus f g [] = refl
  sum_plus f g (x ∷ xs) = omega (arith, sum_by-cons (λ y. f y + g y) x xs, sum_by-cons f x xs, sum_by-cons g x xs, sum_plus f g xs)

  pub sum_times : (k : ℕ) (f : X → ℕ) (xs : List X) → k * sum_by f xs ≡ sum_by (λ x. k * f x) xs
  sum_times k f [] = omega arith
  sum_times k f (x ∷ xs) =
      let e : k * sum_by f (x ∷ xs) ≡ k * (f x + sum_by f xs) = ap (λ n. k * n) (sum_by-cons f x xs) in
      omega (arith, e, sum_by-cons (λ y. k * f y) x xs, sum_times k f xs)

  sum_scaled : (q : X → Bool) (k : ℕ) (xs : List X) → sum_by (λ x. cond (q x) k 0) xs ≡ count_by q xs * k
  sum_scaled q k [] = omega arith
  sum_scaled q k (x ∷ xs) =
      let c : count_by q (x ∷ xs) ≡ one (q x) + count_by q xs = sum_by-cons _ x xs in
      let e : count_by q (x ∷ xs) * k ≡ (one (q x) + count_by q xs) * k = ap (λ n. n * k) c in
      omega (arith, sum_by-cons (λ y. cond (q y) k 0) x xs, sum_scaled q k xs, e, scaled (q x) (count_by q xs) k)

  pub sum_same : (q : X → Bool) (k : ℕ) (xs : List X) → count_by q xs ≡ 1 → sum_by (λ x. cond (q x) k 0) xs ≡ k
  sum_same q k xs h =
      let e : count_by q xs * k ≡ 1 * k = ap (λ n. n * k) h in omega (arith, sum_scaled q k xs, e)

same_sym : (a b : Mapping) → same_mapping a b ≡ same_mapping b a
same_sym a b = by_test (same_mapping a b) (same_mapping b a) refl refl
  where
    by_test : (p q : Bool) → same_mapping a b ≡ p → same_mapping b a ≡ q → p ≡ q
    by_test true true e f = refl
    by_test true false e f =
        let s : same_mapping b a ≡ true = ap (same_mapping b) (same_mapping_is a b e) ∙ same_mapping_own b in cc
    by_test false true e f =
        let s : same_mapping a b ≡ true = ap (same_mapping a) (same_mapping_is b a f) ∙ same_mapping_own a in cc
    by_test false false e f = refl

abbrev pub times : List Mapping → Mapping → ℕ
times xs m = count_by (same_mapping m) xs

pub times_cons : (m x : Mapping) (xs : List Mapping) → times (x ∷ xs) m ≡ one (same_mapping m x) + times xs m
times_cons m x xs = sum_by-cons _ x xs

pub times_own : (x : Mapping) (xs : List Mapping) → times (x ∷ xs) x ≡ 1 + times xs x
times_own x xs = let z : one (same_mapping x x) ≡ 1 = ap one (same_mapping_own x) in omega (arith, times_cons x x xs, z)

pub regroup : (f : Mapping → ℕ) (xs U : List Mapping) → ((m : Mapping) → 0 < times xs m → times U m ≡ 1) →
    sum_by f xs ≡ sum_by (λ u. times xs u * f u) U
regroup f [] U h = sym (sum_zero (λ u. 0 * f u) U (λ u. omega arith))
regroup f (x ∷ xs) U h =
    let here : times U x ≡ 1 = h x (omega (arith, times_own x xs)) in
    let rest : sum_by f xs ≡ sum_by (λ u. times xs u * f u) U = regroup f xs U (λ m p. h m (omega (arith, times_cons m x xs))) in
    let each : sum_by (λ u. times (x ∷ xs) u * f u) U ≡ sum_by (λ u. cond (same_mapping x u) (f x) 0 + times xs u * f u) U =
    sum_by-cong (λ u. times (x ∷ xs) u * f u) (λ u. cond (same_mapping x u) (f x) 0 + times xs u * f u) U (λ u. at u (same_mapping x u) refl) in
    let apart : sum_by (λ u. cond (same_mapping x u) (f x) 0 + times xs u * f u) U ≡ sum_by (λ u. cond (same_mapping x u) (f x) 0) U + sum_by (λ u. times xs u * f u) U =
    sum_plus (λ u. cond (same_mapping x u) (f x) 0) (λ u. times xs u * f u) U in
    omega (arith, sum_by-cons f x xs, rest, each, apart, sum_same (same_mapping x) (f x) U here)
  where
    at : (u : Mapping) (b : Bool) → same_mapping x u ≡ b → times (x ∷ xs) u * f u ≡ cond b (f x) 0 + times xs u * f u
    at u true e =
        let z : one (same_mapping u x) ≡ 1 = ap one (same_sym u x ∙ e) in
        let c : times (x ∷ xs) u * f u ≡ (1 + times xs u) * f u = ap (λ n. n * f u) (times_cons u x xs ∙ ap (λ n. n + times xs u) z) in
        omega (arith, c, ap f (same_mapping_is x u e))
    at u false e =
        let z : one (same_mapping u x) ≡ 0 = ap one (same_sym u x ∙ e) in
        let c : times (x ∷ xs) u * f u ≡ (0 + times xs u) * f u = ap (λ n. n * f u) (times_cons u x xs ∙ ap (λ n. n + times xs u) z) in
        omega (arith, c)

above : (n c : ℕ) → c ≡ once_if_any n → 0 < n → c ≡ 1
above zero c e h = absurd (omega arith)
above (suc n) c e h = e

below : (n c : ℕ) → c ≡ once_if_any n → 0 < c → 0 < n
below zero c e h = absurd (omega arith)
below (suc n) c e h = omega arith

if_pair : (a b c : Bool) → cond a (cond b (one c) 0) 0 ≡ one (a && (b && c))
if_pair true true c = refl
if_pair true false c = refl
if_pair false b c = refl

product : (p : Bool) (k n : ℕ) → k * (n * one p) ≡ cond p (k * n) 0
product true k n = let e : n * 1 ≡ n = omega arith in ap (λ x. k * x) e
product false k n = let e : n * 0 ≡ 0 = omega arith in ap (λ x. k * x) e ∙ omega arith

module _ (F : Mapping → Bool) (A B U V : List Mapping) (lu : ListsCounted U (times A)) (lv : ListsCounted V (times B)) (m : Mapping) where
  from_one : (a : Mapping) → count_by (same_mapping m) (filter F (merges B a)) ≡ sum_by (λ b. times B b * one (is_pair F m a b)) V
  from_one a =
      sum_by-filter (λ x. cond (same_mapping m x) 1 0) F (merges B a)
      ∙ sum_by-map (λ x. cond (F x) (cond (same_mapping m x) 1 0) 0) (merge a) (filter (compatible a) B)
      ∙ sum_by-filter (λ b. cond (F (merge a b)) (cond (same_mapping m (merge a b)) 1 0) 0) (compatible a) B
      ∙ sum_by-cong (λ b. cond (compatible a b) (cond (F (merge a b)) (cond (same_mapping m (merge a b)) 1 0) 0) 0) (λ b. one (is_pair F m a b)) B
      (λ b. if_pair (compatible a b) (F (merge a b)) (same_mapping m (merge a b)))
      ∙ regroup (λ b. one (is_pair F m a b)) B V (λ x h. above (times B x) (times V x) (lv x) h)

  pub pairs_law : sum_by (λ a. count_by (same_mapping m) (filter F (merges B a))) A ≡ pairs_count F U V (times A) (times B) m
  pairs_law =
      sum_by-cong (λ a. count_by (same_mapping m) (filter F (merges B a))) (λ a. sum_by (λ b. times B b * one (is_pair F m a b)) V) A from_one
      ∙ regroup (λ a. sum_by (λ b. times B b * one (is_pair F m a b)) V) A U (λ x h. above (times A x) (times U x) (lu x) h)
      ∙ sum_by-cong (λ a. times A a * sum_by (λ b. times B b * one (is_pair F m a b)) V) (λ a. sum_by (λ b. cond (is_pair F m a b) (times A a * times B b) 0) V) U
      (λ a. sum_times (times A a) (λ b. times B b * one (is_pair F m a b)) V
      ∙ sum_by-cong (λ b. times A a * (times B b * one (is_pair F m a b))) (λ b. cond (is_pair F m a b) (times A a * times B b) 0) V
      (λ b. product (is_pair F m a b) (times A a) (times B b)))

pub join_law : (A B U V : List Mapping) → ListsCounted U (times A) → ListsCounted V (times B) → (m : Mapping) →
    times (joins A B) m ≡ pairs_count always U V (times A) (times B) m
join_law A B U V lu lv m =
    sum_by-flat_map (λ x. cond (same_mapping m x) 1 0) (merges B) A
    ∙ sum_by-cong (λ a. count_by (same_mapping m) (merges B a)) (λ a. count_by (same_mapping m) (filter always (merges B a))) A
    (λ a. sym (sum_by-filter (λ x. cond (same_mapping m x) 1 0) always (merges B a)))
    ∙ pairs_law always A B U V lu lv m

-- a mapping that begins no pair stays alone

pub any_at : (p : Mapping → Bool) (m : Mapping) (V : List Mapping) → 0 < times V m → p m ≡ true → list_any p V ≡ true
any_at p m [] h t = absurd (omega arith)
any_at p m (x ∷ V) h t = by_test (same_mapping m x) (p x) refl refl (any_at p m V)
  where
    by_test : (b q : Bool) → same_mapping m x ≡ b → p x ≡ q → (0 < times V m → p m ≡ true → list_any p V ≡ true) → (q || list_any p V) ≡ true
    by_test b true e f k = refl
    by_test true false e f k = let s : p x ≡ true = ap p (sym (same_mapping_is m x e)) ∙ t in cc
    by_test false false e f k = let z : one (same_mapping m x) ≡ 0 = ap one e in k (omega (arith, h, z, times_cons m x V)) t

any_moves : (p : Mapping → Bool) (xs V : List Mapping) → ((m : Mapping) → 0 < times xs m → 0 < times V m) → list_any p xs ≡ true → list_any p V ≡ true
any_moves p [] V h t = cc
any_moves p (x ∷ xs) V h t = by_test (p x) refl t (any_moves p xs V (λ m k. h m (omega (arith, k, times_cons m x xs))))
  where
    by_test : (q : Bool) → p x ≡ q → (q || list_any p xs) ≡ true → (list_any p xs ≡ true → list_any p V ≡ true) → list_any p V ≡ true
    by_test true e r k = any_at p x V (h x (omega (arith, times_own x xs))) e
    by_test false e r k = k r

pub any_listed : (p : Mapping → Bool) (xs V : List Mapping) → ListsCounted V (times xs) → list_any p xs ≡ list_any p V
any_listed p xs V l =
    both_true (list_any p xs) (list_any p V)
    (any_moves p xs V (λ m h. let e : times V m ≡ 1 = above (times xs m) (times V m) (l m) h in omega (arith, e)))
    (any_moves p V xs (λ m h. below (times xs m) (times V m) (l m) h))

abbrev is_none : List Mapping → Bool
is_none [] = true
is_none (x ∷ xs) = false

none_where : (F : Mapping → Bool) (a : Mapping) (B : List Mapping) → is_none (filter F (merges B a)) ≡ not (begins_pair F B a)
none_where F a [] = refl
none_where F a (b ∷ B) = by_test (compatible a b) (F (merge a b)) refl refl (none_where F a B)
  where
    by_test : (p q : Bool) → compatible a b ≡ p → F (merge a b) ≡ q → is_none (filter F (merges B a)) ≡ not (begins_pair F B a) →
        is_none (filter F (map (merge a) (cond p (b ∷ filter (compatible a) B) (filter (compatible a) B)))) ≡ not ((p && q) || begins_pair F B a)
    by_test true true e f k = ap (λ t. is_none (cond t (merge a b ∷ filter F (merges B a)) (filter F (merges B a)))) f
    by_test true false e f k = ap (λ t. is_none (cond t (merge a b ∷ filter F (merges B a)) (filter F (merges B a)))) f ∙ k
    by_test false q e f k = k

alone : (m a : Mapping) (xs : List Mapping) → times (or_alone a xs) m ≡ times xs m + cond (is_none xs) (one (same_mapping m a)) 0
alone m a [] = omega (arith, times_cons m a [])
alone m a (x ∷ xs) = omega arith

not_cond : (b : Bool) (k : ℕ) → cond (not b) k 0 ≡ cond b 0 k
not_cond true k = refl
not_cond false k = refl

pub left_join_law : (F : Mapping → Bool) (A B U V : List Mapping) → ListsCounted U (times A) → ListsCounted V (times B) → (m : Mapping) →
    times (left_joins A B F) m ≡ pairs_count F U V (times A) (times B) m + cond (begins_pair F V m) 0 (times A m)
left_join_law F A B U V lu lv m =
    sum_by-flat_map (λ x. cond (same_mapping m x) 1 0) (λ a. or_alone a (filter F (merges B a))) A
    ∙ sum_by-cong (λ a. times (or_alone a (filter F (merges B a))) m) (λ a. times (filter F (merges B a)) m + one (same_mapping m a && not (begins_pair F V m))) A
    (λ a. alone m a (filter F (merges B a))
    ∙ ap (λ n. times (filter F (merges B a)) m + n)
    (ap (λ b. cond b (one (same_mapping m a)) 0) (none_where F a B ∙ ap not (any_listed (λ b. compatible a b && F (merge a b)) B V lv))
    ∙ at a (same_mapping m a) refl))
    ∙ sum_plus (λ a. times (filter F (merges B a)) m) (λ a. one (same_mapping m a && not (begins_pair F V m))) A
    ∙ ap (λ n. n + sum_by (λ a. one (same_mapping m a && not (begins_pair F V m))) A) (pairs_law F A B U V lu lv m)
    ∙ ap (λ n. pairs_count F U V (times A) (times B) m + n) (sum_of_tests (same_mapping m) (not (begins_pair F V m)) A ∙ not_cond (begins_pair F V m) (times A m))
  where
    zero_both : (b : Bool) → cond b (one false) 0 ≡ one false
    zero_both true = refl
    zero_both false = refl

    turned : (b : Bool) → cond b (one true) 0 ≡ one b
    turned true = refl
    turned false = refl

    at : (a : Mapping) (b : Bool) → same_mapping m a ≡ b → cond (not (begins_pair F V a)) (one b) 0 ≡ one (b && not (begins_pair F V m))
    at a true e = turned (not (begins_pair F V a)) ∙ ap (λ (x : Mapping). one (not (begins_pair F V x))) (sym (same_mapping_is m a e))
    at a false e = zero_both (not (begins_pair F V a))

pub filter_law : (F : Mapping → Bool) (A : List Mapping) (m : Mapping) → times (filter F A) m ≡ cond (F m) (times A m) 0
filter_law F A m =
    sum_by-filter (λ x. cond (same_mapping m x) 1 0) F A
    ∙ sum_by-cong (λ x. cond (F x) (cond (same_mapping m x) 1 0) 0) (λ x. one (same_mapping m x && F m)) A (λ x. at x (same_mapping m x) refl)
    ∙ sum_of_tests (same_mapping m) (F m) A
  where
    zero_both : (b : Bool) → cond b (one false) 0 ≡ one false
    zero_both true = refl
    zero_both false = refl

    at : (x : Mapping) (b : Bool) → same_mapping m x ≡ b → cond (F x) (one b) 0 ≡ one (b && F m)
    at x true e = ap (λ (z : Mapping). one (F z)) (sym (same_mapping_is m x e))
    at x false e = zero_both (F x)

-- there is a list of what is counted

abbrev pub each_once : List Mapping → List Mapping
each_once [] = []
each_once (x ∷ xs) = cond (list_any (same_mapping x) xs) (each_once xs) (x ∷ each_once xs)

pub counted_once : (n : ℕ) → 0 < n → once_if_any n ≡ 1
counted_once zero h = absurd (omega arith)
counted_once (suc n) h = refl

pub each_once_lists : (xs : List Mapping) → ListsCounted (each_once xs) (times xs)
each_once_lists [] m = refl
each_once_lists (x ∷ xs) m = by_test (list_any (same_mapping x) xs) (same_mapping m x) refl refl (each_once_lists xs m)
  where
    there : same_mapping m x ≡ true → list_any (same_mapping x) xs ≡ true → 0 < times xs m
    there e l = below_any xs (ap (λ (z : Mapping). list_any (same_mapping z) xs) (same_mapping_is m x e) ∙ l)
      where
        below_any : (ys : List Mapping) → list_any (same_mapping m) ys ≡ true → 0 < times ys m
        below_any [] h = cc
        below_any (y ∷ ys) h = by_head (same_mapping m y) refl h (below_any ys)
          where
            by_head : (b : Bool) → same_mapping m y ≡ b → (b || list_any (same_mapping m) ys) ≡ true → (list_any (same_mapping m) ys ≡ true → 0 < times ys m) → 0 < times (y ∷ ys) m
            by_head true e h k = let z : one (same_mapping m y) ≡ 1 = ap one e in omega (arith, z, times_cons m y ys)
            by_head false e h k = omega (arith, k h, times_cons m y ys)

    by_test : (l b : Bool) → list_any (same_mapping x) xs ≡ l → same_mapping m x ≡ b → times (each_once xs) m ≡ once_if_any (times xs m) →
        times (cond l (each_once xs) (x ∷ each_once xs)) m ≡ once_if_any (times (x ∷ xs) m)
    by_test true true el eb r =
        let more : 0 < times xs m = there eb el in
        r ∙ counted_once (times xs m) more ∙ sym (counted_once (times (x ∷ xs) m) (omega (arith, more, times_cons m x xs)))
    by_test true false el eb r =
        let z : one (same_mapping m x) ≡ 0 = ap one eb in
        let e : times (x ∷ xs) m ≡ times xs m = omega (arith, z, times_cons m x xs) in
        r ∙ ap once_if_any (sym e)
    by_test false true el eb r =
        let absent : times xs m ≡ 0 = none_counted (same_mapping m) xs (ap (λ (q : Mapping). list_any (same_mapping q) xs) (same_mapping_is m x eb) ∙ el) in
        let z : one (same_mapping m x) ≡ 1 = ap one eb in
        let e : times (x ∷ xs) m ≡ 1 = omega (arith, z, absent, times_cons m x xs) in
        let f : times (each_once xs) m ≡ 0 = r ∙ ap once_if_any absent in
        let k : times (x ∷ each_once xs) m ≡ 1 = omega (arith, z, f, times_cons m x (each_once xs)) in
        k ∙ sym (ap once_if_any e)
    by_test false false el eb r =
        let z : one (same_mapping m x) ≡ 0 = ap one eb in
        let e : times (x ∷ xs) m ≡ times xs m = omega (arith, z, times_cons m x xs) in
        let k : times (x ∷ each_once xs) m ≡ times (each_once xs) m = omega (arith, z, times_cons m x (each_once xs)) in
        k ∙ r ∙ ap once_if_any (sym e)

-- one mapping
pub single_lists : (s : Mapping) → ListsCounted (s ∷ []) (times (s ∷ []))
single_lists s m = by_test (same_mapping m s)
  where
    by_test : (b : Bool) → 0 + one b ≡ once_if_any (0 + one b)
    by_test true = refl
    by_test false = refl

pub single_law : (A U : List Mapping) (s : Mapping) → ListsCounted U (times A) → (m : Mapping) →
    times (joins A (s ∷ [])) m ≡ pairs_count always U (s ∷ []) (times A) (λ _. 1) m
single_law A U s lu m =
    join_law A (s ∷ []) U (s ∷ []) lu (single_lists s) m
    ∙ sum_by-cong (λ a. sum_by (λ b. cond (is_pair always m a b) (times A a * times (s ∷ []) b) 0) (s ∷ []))
    (λ a. sum_by (λ b. cond (is_pair always m a b) (times A a * 1) 0) (s ∷ [])) U
    (λ a. ap (λ n. 0 + cond (is_pair always m a s) (times A a * n) 0) own)
  where
    own : times (s ∷ []) s ≡ 1
    own = ap (λ b. 0 + one b) (same_mapping_own s)
