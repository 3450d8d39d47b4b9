-- What was found for some columns of a row serves each row that has the same there.
use Rattle.std.proofs.Common.{◌≡◌, ℕ, zero, suc, Bool, true, false, cond, ◌&&◌, List, [], ◌∷◌, map, filter, Option, Some, None, is_none, refl, sym, ap, ◌∙◌, length, replicate, arith}
use mathlib.Core.Bool.{true≢false}
use Rattle.std.specs.List.{flat_map, sum_by, list_all}
use Rattle.std.proofs.lemmas.List.Sums.{sum_by-cons}
use Rattle.rdf_terms.specs.declared.term.Term.{Term}
use Rattle.sparql_values.specs.Mapping.{Variables, Mapping, same_term, agrees, first_of, compatible, merge}
use Rattle.sparql_values.proofs.CallerLemmas.{same_term_own}
use Rattle.sparql_algebra.specs.Algebra.{Element, joined, optional, removed}
use Rattle.sparql_algebra.specs.Bags.{SameBag}
use Rattle.sparql_algebra.specs.Solutions.{merges, or_alone, shares, satisfies}
use Rattle.sparql_algebra.specs.Under.{agreeing, cut}
use Rattle.sparql_algebra.proofs.CallerLemmas.{and_left, and_right, has_length, length_from, same_term_is, SameBag-refl, SameBag-filter, SameBag-flat_map, SameBag-merges, SameBag-or_alone, filter_always, filter_turn, filter-cong}
use Rattle.sparql_solve.specs.Under.{binds_none, lies, below, shown, masked, flags_where, is_removed, met, where_none, kept, asked}

-- ---- rows that bind nothing

pub replicate_none : (n : ℕ) → binds_none (replicate n None) ≡ true
replicate_none zero = refl
replicate_none (suc n) = replicate_none n

compatible_none : (u x : Mapping) → binds_none u ≡ true → compatible u x ≡ true
compatible_none [] x h = refl
compatible_none (None ∷ u) [] h = refl
compatible_none (None ∷ u) (y ∷ x) h = compatible_none u x h
compatible_none (Some t ∷ u) x h = cc

pub agreeing_none : (u : Mapping) (rows : List Mapping) → binds_none u ≡ true → agreeing rows u ≡ rows
agreeing_none u rows h = filter-cong (compatible u) (λ (_ : Mapping). true) (λ x. compatible_none u x h) rows ∙ filter_always rows

pub below_none : (u x : Mapping) → binds_none u ≡ true → below u x ≡ true
below_none [] x h = refl
below_none (None ∷ u) [] h = refl
below_none (None ∷ u) (y ∷ x) h = below_none u x h
below_none (Some t ∷ u) x h = cc

pub merge_none : (u x : Mapping) → binds_none u ≡ true → length u ≡ length x → merge u x ≡ x
merge_none [] [] h e = refl
merge_none [] (y ∷ x) h e = absurd (omega arith)
merge_none (None ∷ u) [] h e = absurd (omega arith)
merge_none (None ∷ u) (y ∷ x) h e = ap (λ (w : Mapping). y ∷ w) (merge_none u x h (omega arith))
merge_none (Some t ∷ u) x h e = cc

pub merges_none : (u : Mapping) (S : List Mapping) (n : ℕ) → binds_none u ≡ true → length u ≡ n → list_all (has_length n) S ≡ true → merges S u ≡ S
merges_none u [] n h e w = refl
merges_none u (x ∷ S) n h e w =
    let first : merge u x ≡ x = merge_none u x h (e ∙ sym (length_from n x (and_left (has_length n x) _ w))) in
    ap (λ b. map (merge u) (cond b (x ∷ filter (compatible u) S) (filter (compatible u) S))) (compatible_none u x h)
    ∙ ap (λ (y : Mapping). y ∷ merges S u) first ∙ ap (λ (l : List Mapping). x ∷ l) (merges_none u S n h e (and_right (has_length n x) _ w))

-- ---- columns whose flag is up

lies_shown : (x : Option Term) (b : Bool) → lies (shown (x, b), x) ≡ true
lies_shown (Some t) true = same_term_own t
lies_shown None true = refl
lies_shown x false = refl

pub below_masked : (flags : List Bool) (m : Mapping) → below (masked flags m) m ≡ true
below_masked flags [] = refl
below_masked [] (x ∷ m) = refl
below_masked (b ∷ flags) (x ∷ m) = ap (λ c. c && below (masked flags m) m) (lies_shown x b) ∙ below_masked flags m

pub length_masked : (flags : List Bool) (m : Mapping) → length flags ≡ length m → length (masked flags m) ≡ length m
length_masked [] [] e = refl
length_masked (b ∷ flags) [] e = absurd (omega arith)
length_masked [] (x ∷ m) e = absurd (omega arith)
length_masked (b ∷ flags) (x ∷ m) e = ap suc (length_masked flags m (omega arith))

shown_is : (x : Option Term) (b : Bool) → shown (x, b) ≡ cond b x None
shown_is x true = refl
shown_is x false = refl

pub masked_cut : (test : ℕ → Bool) (n : ℕ) (m : Mapping) → length m ≡ n → masked (flags_where test n) m ≡ cut test m
masked_cut test zero [] e = refl
masked_cut test zero (x ∷ m) e = absurd (omega arith)
masked_cut test (suc n) [] e = absurd (omega arith)
masked_cut test (suc n) (x ∷ m) e =
    ap (λ (y : Option Term). y ∷ masked (flags_where (λ c. test (suc c)) n) m) (shown_is x (test zero))
    ∙ ap (λ (w : Mapping). cond (test zero) x None ∷ w) (masked_cut (λ c. test (suc c)) n m (omega arith))

-- ---- what agrees with a row agrees with what lies below it

through : (s t : Term) (z : Option Term) → same_term s t ≡ true → agrees (Some t, z) ≡ true → agrees (Some s, z) ≡ true
through s t z h k = ap (λ (u : Term). agrees (Some u, z)) (same_term_is s t h) ∙ k

agrees_below : (k x s : Option Term) → lies (k, x) ≡ true → agrees (x, s) ≡ true → agrees (k, s) ≡ true
agrees_below None x s h e = refl
agrees_below (Some t) None s h e = cc
agrees_below (Some t) (Some u) s h e = through t u s h e

agrees_merged : (a k x s : Option Term) → lies (k, x) ≡ true → agrees (x, s) ≡ true → agrees (a, first_of (x, s)) ≡ true → agrees (first_of (a, k), s) ≡ true
agrees_merged None k x s h e f = agrees_below k x s h e
agrees_merged (Some u) k None s h e f = f
agrees_merged (Some u) k (Some v) s h e f = through u v s f e

compatible_below : (key x s : Mapping) → length key ≡ length x → below key x ≡ true → compatible x s ≡ true → compatible key s ≡ true
compatible_below [] x s e h c = refl
compatible_below (k ∷ key) [] s e h c = absurd (omega arith)
compatible_below (k ∷ key) (x ∷ xs) [] e h c = refl
compatible_below (k ∷ key) (x ∷ xs) (y ∷ s) e h c =
    ap (λ b. b && compatible key s) (agrees_below k x y (and_left (lies (k, x)) _ h) (and_left (agrees (x, y)) _ c))
    ∙ compatible_below key xs s (omega arith) (and_right (lies (k, x)) _ h) (and_right (agrees (x, y)) _ c)

compatible_merged : (a key x s : Mapping) → length key ≡ length x → below key x ≡ true → compatible x s ≡ true → compatible a (merge x s) ≡ true →
    compatible (merge a key) s ≡ true
compatible_merged [] key x s e h c f = refl
compatible_merged (y ∷ a) [] x s e h c f = refl
compatible_merged (y ∷ a) (k ∷ key) [] s e h c f = absurd (omega arith)
compatible_merged (y ∷ a) (k ∷ key) (x ∷ xs) [] e h c f = refl
compatible_merged (y ∷ a) (k ∷ key) (x ∷ xs) (z ∷ s) e h c f =
    ap (λ b. b && compatible (merge a key) s)
    (agrees_merged y k x z (and_left (lies (k, x)) _ h) (and_left (agrees (x, z)) _ c) (and_left (agrees (y, first_of (x, z))) _ f))
    ∙ compatible_merged a key xs s (omega arith) (and_right (lies (k, x)) _ h) (and_right (agrees (x, z)) _ c) (and_right (agrees (y, first_of (x, z))) _ f)

-- ---- so of what was found under it the row takes what it takes of all

module _ (a key x : Mapping) (e : length key ≡ length x) (h : below key x ≡ true) where
  merges_below : (S : List Mapping) → merges (agreeing S key) x ≡ merges S x
  merges_below S = ap (map (merge x)) (all S)
    where
      all : (S : List Mapping) → filter (compatible x) (filter (compatible key) S) ≡ filter (compatible x) S
      all [] = refl
      all (s ∷ S) = by_test (compatible key s) (compatible x s) refl refl (all S)
        where
          by_test : (b c : Bool) → compatible key s ≡ b → compatible x s ≡ c → filter (compatible x) (filter (compatible key) S) ≡ filter (compatible x) S →
              filter (compatible x) (cond b (s ∷ filter (compatible key) S) (filter (compatible key) S)) ≡ cond c (s ∷ filter (compatible x) S) (filter (compatible x) S)
          by_test true c i j r =
              ap (λ d. cond d (s ∷ filter (compatible x) (filter (compatible key) S)) (filter (compatible x) (filter (compatible key) S))) j
              ∙ ap (λ (l : List Mapping). cond c (s ∷ l) l) r
          by_test false true i j r = absurd (true≢false (sym (compatible_below key x s e h j) ∙ i))
          by_test false false i j r = r

  -- the merges that are compatible with the mapping above
  abbrev left : List Mapping → List Mapping
  left xs = filter (compatible a) (map (merge x) (filter (compatible x) xs))

  left_cons : (s : Mapping) (xs : List Mapping) (c : Bool) → compatible x s ≡ c →
      left (s ∷ xs) ≡ filter (compatible a) (map (merge x) (cond c (s ∷ filter (compatible x) xs) (filter (compatible x) xs)))
  left_cons s xs c j = ap (λ d. filter (compatible a) (map (merge x) (cond d (s ∷ filter (compatible x) xs) (filter (compatible x) xs)))) j

  merged_below : (S : List Mapping) → agreeing (merges (agreeing S (merge a key)) x) a ≡ agreeing (merges S x) a
  merged_below [] = refl
  merged_below (s ∷ S) = by_test (compatible (merge a key) s) (compatible x s) refl refl (merged_below S)
    where
      by_last : (b : Bool) → compatible a (merge x s) ≡ b → compatible x s ≡ true → compatible (merge a key) s ≡ false → left S ≡ cond b (merge x s ∷ left S) (left S)
      by_last true k j i = absurd (true≢false (sym (compatible_merged a key x s e h j k) ∙ i))
      by_last false k j i = refl

      by_test : (b c : Bool) → compatible (merge a key) s ≡ b → compatible x s ≡ c → left (filter (compatible (merge a key)) S) ≡ left S →
          left (cond b (s ∷ filter (compatible (merge a key)) S) (filter (compatible (merge a key)) S)) ≡ left (s ∷ S)
      by_test true true i j r =
          left_cons s (filter (compatible (merge a key)) S) true j ∙ ap (λ (l : List Mapping). cond (compatible a (merge x s)) (merge x s ∷ l) l) r ∙ sym (left_cons s S true j)
      by_test true false i j r = left_cons s (filter (compatible (merge a key)) S) false j ∙ r ∙ sym (left_cons s S false j)
      by_test false true i j r = r ∙ by_last (compatible a (merge x s)) refl j i ∙ sym (left_cons s S true j)
      by_test false false i j r = r ∙ sym (left_cons s S false j)

-- ---- of what was merged with it the row takes what it takes of all

agrees_again : (k x s : Option Term) → lies (k, x) ≡ true → agrees (k, s) ≡ true → agrees (x, first_of (k, s)) ≡ agrees (x, s)
agrees_again None x s h i = refl
agrees_again (Some t) None s h i = cc
agrees_again (Some t) (Some u) s h i =
    let is : t ≡ u = same_term_is t u h in
    ap (λ (w : Term). same_term w t) (sym is) ∙ same_term_own t ∙ sym i ∙ ap (λ (w : Term). agrees (Some w, s)) is

merged_again : (k x s : Option Term) → lies (k, x) ≡ true → first_of (x, first_of (k, s)) ≡ first_of (x, s)
merged_again None x s h = refl
merged_again (Some t) None s h = cc
merged_again (Some t) (Some u) s h = refl

compatible_again : (key x s : Mapping) → length key ≡ length x → below key x ≡ true → compatible key s ≡ true → compatible x (merge key s) ≡ compatible x s
compatible_again [] [] s e h i = refl
compatible_again [] (x ∷ xs) s e h i = absurd (omega arith)
compatible_again (k ∷ key) [] s e h i = absurd (omega arith)
compatible_again (k ∷ key) (x ∷ xs) [] e h i = refl
compatible_again (k ∷ key) (x ∷ xs) (z ∷ s) e h i =
    ap (λ b. b && compatible xs (merge key s)) (agrees_again k x z (and_left (lies (k, x)) _ h) (and_left (agrees (k, z)) _ i))
    ∙ ap (λ b. agrees (x, z) && b) (compatible_again key xs s (omega arith) (and_right (lies (k, x)) _ h) (and_right (agrees (k, z)) _ i))

merge_again : (key x s : Mapping) → length key ≡ length x → below key x ≡ true → merge x (merge key s) ≡ merge x s
merge_again [] [] s e h = refl
merge_again [] (x ∷ xs) s e h = absurd (omega arith)
merge_again (k ∷ key) [] s e h = absurd (omega arith)
merge_again (k ∷ key) (x ∷ xs) [] e h = refl
merge_again (k ∷ key) (x ∷ xs) (z ∷ s) e h =
    ap (λ (y : Option Term). y ∷ merge xs (merge key s)) (merged_again k x z (and_left (lies (k, x)) _ h))
    ∙ ap (λ (w : Mapping). first_of (x, z) ∷ w) (merge_again key xs s (omega arith) (and_right (lies (k, x)) _ h))

pub merges_again : (key x : Mapping) → length key ≡ length x → below key x ≡ true → (S : List Mapping) → merges (merges S key) x ≡ merges S x
merges_again key x e h [] = refl
merges_again key x e h (s ∷ S) = by_test (compatible key s) (compatible x s) refl refl (merges_again key x e h S)
  where
    by_test : (b c : Bool) → compatible key s ≡ b → compatible x s ≡ c → merges (merges S key) x ≡ merges S x →
        merges (map (merge key) (cond b (s ∷ filter (compatible key) S) (filter (compatible key) S))) x
        ≡ map (merge x) (cond c (s ∷ filter (compatible x) S) (filter (compatible x) S))
    by_test true true i j r =
        ap (λ d. map (merge x) (cond d (merge key s ∷ filter (compatible x) (merges S key)) (filter (compatible x) (merges S key)))) (compatible_again key x s e h i ∙ j)
        ∙ ap (λ (w : Mapping). w ∷ merges (merges S key) x) (merge_again key x s e h) ∙ ap (λ (l : List Mapping). merge x s ∷ l) r
    by_test true false i j r =
        ap (λ d. map (merge x) (cond d (merge key s ∷ filter (compatible x) (merges S key)) (filter (compatible x) (merges S key)))) (compatible_again key x s e h i ∙ j) ∙ r
    by_test false true i j r = absurd (true≢false (sym (compatible_below key x s e h j) ∙ i))
    by_test false false i j r = r

-- what lies above a row that has some of the columns has some of them
shown_above : (x y : Option Term) (b : Bool) → lies (shown (x, b), y) ≡ true → is_none (shown (x, b)) ≡ false → is_none (shown (y, b)) ≡ false
shown_above x y false h e = cc
shown_above None y true h e = cc
shown_above (Some t) None true h e = cc
shown_above (Some t) (Some u) true h e = refl

pub bound_above : (flags : List Bool) (x y : Mapping) → length (masked flags x) ≡ length y → below (masked flags x) y ≡ true → binds_none (masked flags x) ≡ false →
    binds_none (masked flags y) ≡ false
bound_above flags [] y e h n = cc
bound_above [] (x ∷ xs) y e h n = cc
bound_above (b ∷ flags) (x ∷ xs) [] e h n = absurd (omega (arith, e))
bound_above (b ∷ flags) (x ∷ xs) (y ∷ ys) e h n = by_test (is_none (shown (x, b))) refl n (bound_above flags xs ys)
  where
    head : lies (shown (x, b), y) ≡ true
    head = and_left (lies (shown (x, b), y)) _ h

    by_test : (c : Bool) → is_none (shown (x, b)) ≡ c → (is_none (shown (x, b)) && binds_none (masked flags xs)) ≡ false →
        (length (masked flags xs) ≡ length ys → below (masked flags xs) ys ≡ true → binds_none (masked flags xs) ≡ false → binds_none (masked flags ys) ≡ false) →
        (is_none (shown (y, b)) && binds_none (masked flags ys)) ≡ false
    by_test false i j k = ap (λ c. c && binds_none (masked flags ys)) (shown_above x y b head i)
    by_test true i j k =
        by_last (is_none (shown (y, b)))
        (k (omega (arith, e)) (and_right (lies (shown (x, b), y)) _ h) (ap (λ c. c && binds_none (masked flags xs)) (sym i) ∙ j))
      where
        by_last : (c : Bool) → binds_none (masked flags ys) ≡ false → (c && binds_none (masked flags ys)) ≡ false
        by_last true q = q
        by_last false q = refl

module _ (vs : Variables) (a key x : Mapping) (e : length key ≡ length x) (h : below key x ≡ true) where
  kept_below : (k : Element) (S : List Mapping) →
      agreeing (kept vs k x (merges (met k x (agreeing S (asked k a key))) x)) a ≡ agreeing (kept vs k x (merges (met k x S) x)) a
  kept_below (joined A) S = merged_below a key x e h S
  kept_below (optional F A) S = ap (λ (ms : List Mapping). agreeing (or_alone x (filter (satisfies vs F) ms)) a) (merges_below a key x e h S)
  kept_below (removed A) S =
      ap (λ (ms : List Mapping). agreeing (where_none x ms) a)
      (ap (λ (xs : List Mapping). merges xs x) (filter_turn (compatible key) (shares x) S) ∙ merges_below a key x e h (filter (shares x) S))

SameBag-where_none : (x : Mapping) (A B : List Mapping) → SameBag A B → SameBag (where_none x A) (where_none x B)
SameBag-where_none x [] [] r = SameBag-refl (x ∷ [])
SameBag-where_none x [] (y ∷ B) r = absurd (omega (arith, r (λ _. 1), sum_by-cons (λ (_ : Mapping). 1) y B))
SameBag-where_none x (y ∷ A) [] r = absurd (omega (arith, r (λ _. 1), sum_by-cons (λ (_ : Mapping). 1) y A))
SameBag-where_none x (y ∷ A) (z ∷ B) r = SameBag-refl []

pub SameBag-met : (k : Element) (x : Mapping) (A B : List Mapping) → SameBag A B → SameBag (met k x A) (met k x B)
SameBag-met (joined P) x A B r = r
SameBag-met (optional F P) x A B r = r
SameBag-met (removed P) x A B r = SameBag-filter (shares x) A B r

pub SameBag-kept : (vs : Variables) (k : Element) (x : Mapping) (A B : List Mapping) → SameBag A B → SameBag (kept vs k x A) (kept vs k x B)
SameBag-kept vs (joined P) x A B r = r
SameBag-kept vs (optional F P) x A B r =
    SameBag-or_alone x (filter (satisfies vs F) A) (filter (satisfies vs F) B) (SameBag-filter (satisfies vs F) A B r)
SameBag-kept vs (removed P) x A B r = SameBag-where_none x A B r

-- what was found for the columns of a row that these are
pub shared : (vs : Variables) (a key x : Mapping) → length key ≡ length x → below key x ≡ true → (k : Element) (found S : List Mapping) →
    SameBag found (agreeing S (asked k a key)) →
    SameBag (agreeing (kept vs k x (merges (met k x found) x)) a) (agreeing (kept vs k x (merges (met k x S) x)) a)
shared vs a key x e h k found S r f =
    SameBag-filter (compatible a) (kept vs k x (merges (met k x found) x)) (kept vs k x (merges (met k x (agreeing S (asked k a key))) x))
    (SameBag-kept vs k x (merges (met k x found) x) (merges (met k x (agreeing S (asked k a key))) x)
    (SameBag-merges x (met k x found) (met k x (agreeing S (asked k a key))) (SameBag-met k x found (agreeing S (asked k a key)) r))) f
    ∙ ap (sum_by f) (kept_below vs a key x e h k S)

-- where nothing is taken away, each solution counts
pub met_is : (k : Element) → is_removed k ≡ false → (x : Mapping) (S : List Mapping) → met k x S ≡ S
met_is (joined A) e x S = refl
met_is (optional F A) e x S = refl
met_is (removed A) e x S = cc

pub one_by_one : (vs : Variables) (a : Mapping) (k : Element) (S rows out : List Mapping) (b : Bool) → b ≡ is_removed k → b ≡ false →
    out ≡ flat_map (λ x. agreeing (kept vs k x (merges S x)) a) rows → SameBag out (flat_map (λ x. agreeing (kept vs k x (merges (met k x S) x)) a) rows)
one_by_one vs a k S rows out b eb e h f =
    ap (sum_by f) h
    ∙ SameBag-flat_map (λ x. agreeing (kept vs k x (merges S x)) a) (λ x. agreeing (kept vs k x (merges (met k x S) x)) a) rows rows (SameBag-refl rows)
    (λ x f2. ap (λ (xs : List Mapping). sum_by f2 (agreeing (kept vs k x (merges xs x)) a)) (sym (met_is k (sym eb ∙ e) x S))) f
