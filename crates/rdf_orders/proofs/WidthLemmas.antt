-- Keys whose numbers fit 32 bits, and trees of either width.
use Rattle.std.proofs.Common.{◌≡◌, ℕ, ◌-◌, ◌<◌, ◌≤◌, ◌^◌, ltb, Bool, true, false, cond, ◌&&◌, ◌||◌, not, List, [], ◌∷◌, ◌++◌, map, filter, length, refl, sym, ap, subst, ◌∙◌, arith, inl, inr, ltb-false, lt-ltb, append-nil}
use mathlib.Core.Bool.{true≢false}
use Rattle.std.specs.List.{AllByRecursion, list_any}
use Rattle.std.specs.declared.cmp.Ordering.{Ordering}
use Rattle.std.specs.declared.cmp.Ordering.TheVariants.{Less, Equal, Greater}
use Rattle.std.specs.declared.ops.Bound.{Bound}
use Rattle.std.specs.declared.ops.Bound.TheVariants.{Included, Excluded, Unbounded}
use Rattle.std.specs.Ordering.{nat_cmp, ordering_then, is_eq, is_lt, is_le, eq_by_cmp, MatchOrdering}
use Rattle.std.specs.Cmp.{ranks}
use Rattle.std.specs.BTreeMap.Range.{range_contains}
use Rattle.std.specs.BTreeSet.{BTreeSet, contains, Updates, IsFromIterResult}
use Rattle.rdf_orders.specs.declared.order.Order.{Order}
use Rattle.rdf_orders.specs.declared.order.Order.TheVariants.{Spo, Pos, Osp}
use Rattle.rdf_orders.specs.Quads.{key_in, key_cmp, quad_of}
use Rattle.rdf_orders.specs.declared.key_tree.Nodes.{Nodes}
use Rattle.rdf_orders.specs.declared.key_tree.Nodes.TheVariants.{Narrow}
use Rattle.rdf_orders.specs.Inside.Widths.{IsNarrow, floor_key, tree_in, FitTheirWidth, GainsOne, LosesOne}
use Rattle.rdf_orders.proofs.AheadLemmas.{held_where, held_each}
use Rattle.rdf_orders.proofs.TestLemmas.{is_either, or_of_cond, and_of_cond, cases}
use Rattle.rdf_orders.proofs.TreeLemmas.{same_key}

abbrev Fits : List ℕ → Type 0
Fits k = AllByRecursion (λ n. n < 2 ^ 32) k

-- ---- the greatest narrow key that is not greater

abbrev top : ℕ
top = 2 ^ 32 - 1

floor_fitting : (n : ℕ) (k : List ℕ) → ltb n (2 ^ 32) ≡ true → floor_key (n ∷ k) ≡ n ∷ floor_key k
floor_fitting n k e = ap (λ b. cond b (n ∷ floor_key k) (top ∷ map (λ _. top) k)) e

pub floor_past : (n : ℕ) (k : List ℕ) → ltb n (2 ^ 32) ≡ false → floor_key (n ∷ k) ≡ top ∷ map (λ _. top) k
floor_past n k e = ap (λ b. cond b (n ∷ floor_key k) (top ∷ map (λ _. top) k)) e

floor_same : (k : List ℕ) → Fits k → floor_key k ≡ k
floor_same [] f = refl
floor_same (n ∷ k) f = floor_fitting n k (lt-ltb n (2 ^ 32) f.0) ∙ ap (λ t. n ∷ t) (floor_same k f.1)

pub floor_narrow : (k : List ℕ) → IsNarrow k → floor_key k ≡ k
floor_narrow k narrow = floor_same k narrow.fits

then_lt : (o r s : Ordering) → is_lt r ≡ is_lt s → is_lt (ordering_then o r) ≡ is_lt (ordering_then o s)
then_lt Less r s e = refl
then_lt Equal r s e = e
then_lt Greater r s e = refl

-- what is not less is not less behind a number that is not less
not_less : (m n : ℕ) (r : Ordering) → n ≤ m → is_lt r ≡ false → is_lt (ordering_then (nat_cmp m n) r) ≡ false
not_less m n r h e =
    elim (nat_cmp m n) as (λ o. MatchOrdering o (m < n) (m ≡ n) (n < m) → is_lt (ordering_then o r) ≡ false) [
      | Less ↦ λ l. absurd (omega arith)
      | Equal ↦ λ _. e
      | Greater ↦ λ _. refl
    ] (ranks m n)

not_less_at_all : (m n : ℕ) (r : Ordering) → n < m → is_lt (ordering_then (nat_cmp m n) r) ≡ false
not_less_at_all m n r h =
    elim (nat_cmp m n) as (λ o. MatchOrdering o (m < n) (m ≡ n) (n < m) → is_lt (ordering_then o r) ≡ false) [
      | Less ↦ λ l. absurd (omega arith)
      | Equal ↦ λ e. absurd (omega arith)
      | Greater ↦ λ _. refl
    ] (ranks m n)

tops_last : (b k : List ℕ) → length b ≡ length k → Fits k → is_lt (key_cmp (map (λ _. top) b) k) ≡ false
tops_last [] [] e f = refl
tops_last [] (n ∷ k) e f = absurd (omega arith)
tops_last (m ∷ b) [] e f = absurd (omega arith)
tops_last (m ∷ b) (n ∷ k) e f = let fits = f.0 in not_less top n _ (omega arith) (tops_last b k (omega arith) f.1)

-- just the keys that are greater than a key are greater than its floor
pub floor_less : (b k : List ℕ) → length b ≡ length k → Fits k → is_lt (key_cmp (floor_key b) k) ≡ is_lt (key_cmp b k)
floor_less [] [] e f = refl
floor_less [] (n ∷ k) e f = absurd (omega arith)
floor_less (m ∷ b) [] e f = absurd (omega arith)
floor_less (m ∷ b) (n ∷ k) e f = elim (cases (ltb m (2 ^ 32))) [
  | inl fitting ↦ ap (λ x. is_lt (key_cmp x (n ∷ k))) (floor_fitting m b fitting) ∙ then_lt (nat_cmp m n) _ _ (floor_less b k (omega arith) f.1)
  | inr past ↦
      let large = ltb-false m (2 ^ 32) past in
      let fits = f.0 in
      ap (λ x. is_lt (key_cmp x (n ∷ k))) (floor_past m b past)
      ∙ tops_last (m ∷ b) (n ∷ k) e f
      ∙ sym (not_less_at_all m n (key_cmp b k) (omega arith))
]

-- ---- bounds

le_of_apart : (r : Ordering) → is_eq r ≡ false → is_lt r ≡ is_le r
le_of_apart Less e = refl
le_of_apart Equal e = absurd (true≢false e)
le_of_apart Greater e = refl

-- a narrow key is another than one that isn't
apart : (b k : List ℕ) → ¬ IsNarrow b → IsNarrow k → is_eq (key_cmp b k) ≡ false
apart b k wide narrow = elim (cases (is_eq (key_cmp b k))) [
  | inl same ↦ absurd (wide (subst IsNarrow (sym (same_key b k same)) narrow))
  | inr other ↦ other
]

abbrev within : Bound (List ℕ) → List ℕ → Bool
within start k = range_contains key_cmp start Unbounded k

pub floor_excluded : (b f : List ℕ) → length b ≡ 4 → f ≡ floor_key b → (k : List ℕ) → IsNarrow k → within (Excluded f) k ≡ within (Excluded b) k
floor_excluded b f four e k narrow =
    ap (λ x. is_lt (key_cmp x k) && not false) e
    ∙ ap (λ c. c && not false) (floor_less b k (four ∙ sym narrow.four) narrow.fits)

pub floor_included : (b f : List ℕ) → length b ≡ 4 → ¬ IsNarrow b → f ≡ floor_key b → (k : List ℕ) → IsNarrow k → within (Excluded f) k ≡ within (Included b) k
floor_included b f four wide e k narrow =
    floor_excluded b f four e k narrow ∙ ap (λ c. c && not false) (le_of_apart (key_cmp b k) (apart b k wide narrow))

filter_each : (p q : List ℕ → Bool) (ks : List (List ℕ)) → AllByRecursion IsNarrow ks → ((k : List ℕ) → IsNarrow k → p k ≡ q k) → filter p ks ≡ filter q ks
filter_each p q [] a same = refl
filter_each p q (k ∷ ks) a same = λ i. cond (same k a.0 i) (k ∷ filter_each p q ks a.1 same i) (filter_each p q ks a.1 same i)

-- ---- what a narrow tree has

abbrev HasNarrow : BTreeSet (List ℕ) → Type 0
HasNarrow tree = (k : List ℕ) → contains key_cmp tree k ≡ true → IsNarrow k

-- a tree whose nodes are narrow is seen with narrow keys
pub narrow_view : (nodes : Nodes) (seen tree : BTreeSet (List ℕ)) → FitTheirWidth nodes → tree_in nodes ≡ seen → nodes ≡ Narrow tree → HasNarrow seen
narrow_view nodes seen tree fit view is = subst HasNarrow (ap tree_in (sym is) ∙ view) (subst FitTheirWidth is fit)

pub each_narrow : (tree : BTreeSet (List ℕ)) → HasNarrow tree → AllByRecursion IsNarrow tree.keys
each_narrow tree narrow = held_each IsNarrow tree.keys narrow

pub same_range : (tree : BTreeSet (List ℕ)) → HasNarrow tree → (a b : Bound (List ℕ)) → ((k : List ℕ) → IsNarrow k → within a k ≡ within b k) → filter (within a) tree.keys ≡ filter (within b) tree.keys
same_range tree narrow a b same = filter_each (within a) (within b) tree.keys (each_narrow tree narrow) same

pub lacks_wide : (tree : BTreeSet (List ℕ)) → HasNarrow tree → (key : List ℕ) → ¬ IsNarrow key → contains key_cmp tree key ≡ false
lacks_wide tree narrow key wide = elim (cases (contains key_cmp tree key)) [
  | inl has ↦ absurd (wide (narrow key has))
  | inr lacks ↦ lacks
]

-- ---- what the calls leave

pub gained : (old new : BTreeSet (List ℕ)) (key x : List ℕ) → x ≡ key → Updates key_cmp old new x true → GainsOne old new key
gained old new key x is u k = u.0 k ∙ or_of_cond (is_eq (key_cmp x k)) (contains key_cmp old k) ∙ ap (λ y. is_eq (key_cmp y k) || contains key_cmp old k) is

pub lost : (old new : BTreeSet (List ℕ)) (key x : List ℕ) → x ≡ key → Updates key_cmp old new x false → LosesOne old new key
lost old new key x is u k = u.0 k ∙ and_of_cond (is_eq (key_cmp x k)) (contains key_cmp old k) ∙ ap (λ y. not (is_eq (key_cmp y k)) && contains key_cmp old k) is

no_loss : (e c : Bool) → (e ≡ true → c ≡ false) → c ≡ (not e && c)
no_loss true c h = h refl
no_loss false c h = refl

pub lost_nothing : (tree : BTreeSet (List ℕ)) → HasNarrow tree → (key : List ℕ) → ¬ IsNarrow key → LosesOne tree tree key
lost_nothing tree narrow key wide k = no_loss (is_eq (key_cmp key k)) (contains key_cmp tree k) (λ e. ap (contains key_cmp tree) (sym (same_key key k e)) ∙ lacks_wide tree narrow key wide)

pub narrow_gained : (old new : BTreeSet (List ℕ)) → HasNarrow old → (key : List ℕ) → IsNarrow key → GainsOne old new key → HasNarrow new
narrow_gained old new narrow key is gain k has = elim (is_either (is_eq (key_cmp key k)) (contains key_cmp old k) (sym (gain k) ∙ has)) [
  | inl same ↦ subst IsNarrow (same_key key k same) is
  | inr was ↦ narrow k was
]

kept_of_lost : (e c : Bool) → (not e && c) ≡ true → c ≡ true
kept_of_lost true c h = absurd (true≢false (sym h))
kept_of_lost false c h = h

pub narrow_lost : (old new : BTreeSet (List ℕ)) → HasNarrow old → (key : List ℕ) → LosesOne old new key → HasNarrow new
narrow_lost old new narrow key loss k has = narrow k (kept_of_lost (is_eq (key_cmp key k)) (contains key_cmp old k) (sym (loss k) ∙ has))

-- a key came into a wide copy of a narrow tree
pub gained_wide : (old copy new : BTreeSet (List ℕ)) (key : List ℕ) → IsFromIterResult key_cmp old.keys copy → Updates key_cmp copy new key true → GainsOne old new key
gained_wide old copy new key same u k = gained copy new key key refl u k ∙ ap (λ b. is_eq (key_cmp key k) || b) (same.0 k)

-- ---- trees built at once

narrow_arranged : (order : Order) (k : List ℕ) → IsNarrow k → IsNarrow (key_in order (quad_of k))
narrow_arranged Spo (a ∷ b ∷ c ∷ d ∷ []) n = n
narrow_arranged Pos (a ∷ b ∷ c ∷ d ∷ []) n = record { four = refl; fits = (n.fits.0, (n.fits.1.1.0, (n.fits.1.1.1.0, (n.fits.1.0, tt)))) }
narrow_arranged Osp (a ∷ b ∷ c ∷ d ∷ []) n = record { four = refl; fits = (n.fits.0, (n.fits.1.1.1.0, (n.fits.1.0, (n.fits.1.1.0, tt)))) }
narrow_arranged order [] n = let four = n.four in absurd (omega arith)
narrow_arranged order (a ∷ []) n = let four = n.four in absurd (omega arith)
narrow_arranged order (a ∷ b ∷ []) n = let four = n.four in absurd (omega arith)
narrow_arranged order (a ∷ b ∷ c ∷ []) n = let four = n.four in absurd (omega arith)
narrow_arranged order (a ∷ b ∷ c ∷ d ∷ x ∷ xs) n = let four = n.four in absurd (omega arith)

abbrev arranged : Order → List ℕ → List ℕ
arranged order x = key_in order (quad_of x)

all_arranged : (order : Order) (ks : List (List ℕ)) → AllByRecursion IsNarrow ks → AllByRecursion IsNarrow (map (arranged order) ks)
all_arranged order [] a = tt
all_arranged order (k ∷ ks) a = (narrow_arranged order k a.0, all_arranged order ks a.1)

floors_same : (order : Order) (ks : List (List ℕ)) → AllByRecursion IsNarrow ks → map (λ x. floor_key (arranged order x)) ks ≡ map (arranged order) ks
floors_same order [] a = refl
floors_same order (k ∷ ks) a = λ i. floor_narrow (arranged order k) (narrow_arranged order k a.0) i ∷ floors_same order ks a.1 i

pub all_joined : (xs ys : List (List ℕ)) → AllByRecursion IsNarrow xs → AllByRecursion IsNarrow ys → AllByRecursion IsNarrow (xs ++ ys)
all_joined [] ys a b = b
all_joined (x ∷ xs) ys a b = (a.0, all_joined xs ys a.1 b)

module _ (order : Order) (spo tree : BTreeSet (List ℕ)) (quads : List (List ℕ)) (narrow : HasNarrow spo) (are : AllByRecursion IsNarrow quads)
    (built : IsFromIterResult key_cmp (map (λ x. floor_key (arranged order x)) (spo.keys ++ quads)) tree) where
  all_narrow : AllByRecursion IsNarrow (spo.keys ++ quads)
  all_narrow = all_joined spo.keys quads (each_narrow spo narrow) are

  pub narrow_built : IsFromIterResult key_cmp (map (arranged order) (spo.keys ++ quads)) tree
  narrow_built = subst (λ ks. IsFromIterResult key_cmp ks tree) (floors_same order (spo.keys ++ quads) all_narrow) built

  pub built_narrow : HasNarrow tree
  built_narrow k has = held_where IsNarrow k (map (arranged order) (spo.keys ++ quads)) (all_arranged order (spo.keys ++ quads) all_narrow) (sym (narrow_built.0 k) ∙ has)

-- a tree that is built of another one alone
pub built_alone : (order : Order) (spo tree : BTreeSet (List ℕ)) → IsFromIterResult key_cmp (map (arranged order) (spo.keys ++ [])) tree
    → (k : List ℕ) → contains key_cmp tree k ≡ list_any (eq_by_cmp key_cmp k) (map (arranged order) spo.keys)
built_alone order spo tree built k = built.0 k ∙ ap (λ ks. list_any (eq_by_cmp key_cmp k) (map (arranged order) ks)) (append-nil spo.keys)
