-- What Minus leaves.
use Rattle.std.proofs.Common.{◌≡◌, ℕ, zero, suc, ◌<◌, ◌≤◌, Bool, true, false, cond, not, ◌&&◌, ◌||◌, List, [], ◌∷◌, ◌++◌, Some, None, refl, sym, ap, ◌∙◌, arith, replicate}
use Rattle.std.specs.List.{sum_by, list_any}
use Rattle.sparql_values.specs.Mapping.{Mapping, compatible}
use Rattle.sparql_algebra.specs.Bags.{SameBag}
use Rattle.sparql_algebra.specs.Counts.{ListsCounted}
use Rattle.sparql_algebra.specs.Solutions.{shares, left_by, minuses}
use Rattle.sparql_algebra.proofs.TruthLemmas.{or_assoc}
use Rattle.sparql_algebra.proofs.BagLemmas.{any_same, SameBag-filter}
use Rattle.sparql_algebra.proofs.FilterLemmas.{filter-cong, filter-filter}
use Rattle.sparql_algebra.proofs.Regroup.{times, times_cons, times_own, filter_law, any_at, any_listed}

-- ---- the list that takes away, as a multiset

pub left_by_same : (test : Mapping → Mapping → Bool) (B D : List Mapping) → SameBag B D → (a : Mapping) → left_by test B a ≡ left_by test D a
left_by_same test B D h a = ap not (any_same (λ b. compatible a b && test a b) B D h)

pub SameBag-minuses : (A C B D : List Mapping) → SameBag A C → SameBag B D → SameBag (minuses A B) (minuses C D)
SameBag-minuses A C B D h k f =
    SameBag-filter (left_by shares B) A C h f ∙ ap (sum_by f) (filter-cong (left_by shares B) (left_by shares D) (left_by_same shares B D k) C)

-- ---- counts

pub minus_law : (A B V : List Mapping) → ListsCounted V (times B) → (m : Mapping) → times (minuses A B) m ≡ cond (left_by shares V m) (times A m) 0
minus_law A B V lv m =
    filter_law (left_by shares B) A m
    ∙ ap (λ b. cond (not b) (times A m) 0) (any_listed (λ b. compatible m b && shares m b) B V lv)

pub minus_adds_none : (A B : List Mapping) (m : Mapping) → times (minuses A B) m ≤ times A m
minus_adds_none A B m = omega (arith, filter_law (left_by shares B) A m, no_more (left_by shares B m) (times A m))
  where
    no_more : (b : Bool) (n : ℕ) → cond b n 0 ≤ n
    no_more true n = omega arith
    no_more false n = omega arith

pub none_any : (p : Mapping → Bool) (xs : List Mapping) → ((x : Mapping) → 0 < times xs x → p x ≡ false) → list_any p xs ≡ false
none_any p [] h = refl
none_any p (x ∷ xs) h =
    ap (λ b. b || list_any p xs) (h x (omega (arith, times_own x xs)))
    ∙ none_any p xs (λ y k. h y (omega (arith, k, times_cons y x xs)))

and_false_right : (a b : Bool) → b ≡ false → (a && b) ≡ false
and_false_right true b h = h
and_false_right false b h = refl

pub nothing_shared : (A B : List Mapping) (m : Mapping) → ((b : Mapping) → 0 < times B b → shares m b ≡ false) → times (minuses A B) m ≡ times A m
nothing_shared A B m h =
    filter_law (left_by shares B) A m
    ∙ ap (λ b. cond (not b) (times A m) 0)
    (none_any (λ b. compatible m b && shares m b) B (λ b k. and_false_right (compatible m b) (shares m b) (h b k)))

pub shared_is_taken : (A B : List Mapping) (m b : Mapping) → 0 < times B b → compatible m b ≡ true → shares m b ≡ true → times (minuses A B) m ≡ 0
shared_is_taken A B m b h c s =
    filter_law (left_by shares B) A m
    ∙ ap (λ t. cond (not t) (times A m) 0)
    (any_at (λ x. compatible m x && shares m x) b B h (ap (λ t. t && shares m b) c ∙ s))

-- what binds nothing shares nothing
pub shares_none : (n : ℕ) (m : Mapping) → shares m (replicate n None) ≡ false
shares_none zero [] = refl
shares_none zero (x ∷ m) = refl
shares_none (suc n) [] = refl
shares_none (suc n) (Some t ∷ m) = shares_none n m
shares_none (suc n) (None ∷ m) = shares_none n m

pub empty_takes_none : (n : ℕ) (A B : List Mapping) → SameBag B (replicate n None ∷ []) → (m : Mapping) → times (minuses A B) m ≡ times A m
empty_takes_none n A B h m =
    filter_law (left_by shares B) A m
    ∙ ap (λ t. cond t (times A m) 0) (left_by_same shares B (replicate n None ∷ []) h m ∙ ap not (ap (λ t. t || false) (and_false_right (compatible m (replicate n None)) _ (shares_none n m))))

-- ---- one list after another

any_append : {X : Type 0} (p : X → Bool) (xs ys : List X) → list_any p (xs ++ ys) ≡ (list_any p xs || list_any p ys)
any_append p [] ys = refl
any_append p (x ∷ xs) ys = ap (λ b. p x || b) (any_append p xs ys) ∙ sym (or_assoc (p x) (list_any p xs) (list_any p ys))

not_or : (a b : Bool) → not (a || b) ≡ (not a && not b)
not_or true b = refl
not_or false b = refl

pub minuses_append : (A B C : List Mapping) → minuses A (B ++ C) ≡ minuses (minuses A B) C
minuses_append A B C =
    filter-cong (left_by shares (B ++ C)) (λ a. left_by shares B a && left_by shares C a)
    (λ a. ap not (any_append (λ b. compatible a b && shares a b) B C)
    ∙ not_or (list_any (λ b. compatible a b && shares a b) B) (list_any (λ b. compatible a b && shares a b) C)) A
    ∙ sym (filter-filter (left_by shares B) (left_by shares C) A)
