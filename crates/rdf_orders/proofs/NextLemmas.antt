-- The keys ahead in an ordered set: where they begin, and what the first key of the range says of them.
use Rattle.std.proofs.Common.{◌≡◌, ℕ, suc, zero, ◌<◌, Bool, true, false, not, List, [], ◌∷◌, ◌++◌, length, take, drop, replicate, refl, sym, ap, subst, ◌∙◌, arith}
use Rattle.std.specs.Prelude.{Option, Some, None, IfSome}
use mathlib.Core.Bool.{true≢false}
use Rattle.std.specs.declared.cmp.Ordering.{Ordering}
use Rattle.std.specs.declared.cmp.Ordering.TheVariants.{Less, Equal, Greater}
use Rattle.std.specs.Ordering.{is_gt, is_ge, is_lt, nat_cmp, ordering_then, ordering_reverse, MatchOrdering, partial_ge, is_some_and}
use Rattle.std.specs.Cmp.Lexicographic.{slice_partial_cmp, lists_agrees}
use Rattle.std.specs.declared.ops.Bound.TheVariants.{Included, Excluded}
use Rattle.std.specs.BTreeSet.{BTreeSet, contains}
use Rattle.std.specs.Cmp.{ranks, tied_itself, nat_cmp_total, upto, alike_right}
use Rattle.std.specs.BTreeMap.Range.{IsLeBy, IsLtBy}
use Rattle.rdf_orders.specs.Quads.{IdQuads, key_cmp}
use Rattle.rdf_orders.specs.Runs.{BeginsWith}
use Rattle.std.specs.List.{starts_with}
use Rattle.std.specs.Cmp.Lexicographic.{bytes_decides}
use Rattle.std.specs.Prelude.{eqb}
use Rattle.rdf_orders.specs.declared.trees.Trees.{Trees}
use Rattle.rdf_orders.specs.Inside.Mirror.{tree_of, is_key_of, Mirrors}
use Rattle.rdf_orders.specs.Inside.Starts.{StartsRun}
use Rattle.rdf_orders.specs.declared.order.Order.{Order}
use Rattle.rdf_orders.proofs.KeyLemmas.{key_cmp_total}

zero_first : (x : ℕ) (r : Ordering) → is_gt r ≡ false → is_gt (ordering_then (nat_cmp 0 x) r) ≡ false
zero_first x r e =
    elim (nat_cmp 0 x) as (λ o. MatchOrdering o (0 < x) (0 ≡ x) (x < 0) → is_gt (ordering_then o r) ≡ false) [
      | Less ↦ λ _. refl
      | Equal ↦ λ _. e
      | Greater ↦ λ l. absurd (omega arith)
    ] (ranks 0 x)

pub zeros_least : (n : ℕ) (k : List ℕ) → length k ≡ n → is_gt (key_cmp (replicate n 0) k) ≡ false
zeros_least zero [] e = refl
zeros_least zero (x ∷ k) e = refl
zeros_least (suc n) [] e = absurd (omega arith)
zeros_least (suc n) (x ∷ k) e = zero_first x _ (zeros_least n k (omega arith))

-- a prefix and zeros are the least key that begins with the prefix
pub least_front : (n : ℕ) (p k : List ℕ) → length k ≡ n → BeginsWith p k → is_gt (key_cmp (p ++ drop (length p) (replicate n 0)) k) ≡ false
least_front n [] k e b = zeros_least n k e
least_front n (x ∷ p) [] e b = cc
least_front zero (x ∷ p) (y ∷ k) e b = absurd (omega arith)
least_front (suc n) (x ∷ p) (y ∷ k) e b =
    let same : y ≡ x = cc in
    let rest : take (length p) k ≡ p = cc in
    subst (λ o. is_gt (ordering_then o (key_cmp (p ++ drop (length p) (replicate n 0)) k)) ≡ false)
    (sym (tied_itself nat_cmp_total x) ∙ ap (nat_cmp x) (sym same))
    (least_front n p k (omega arith) rest)

-- ---- where the keys ahead begin

lt_of_lt_of_le : (a b c : List ℕ) → key_cmp a b ≡ Less → IsLeBy key_cmp b c → key_cmp a c ≡ Less
lt_of_lt_of_le a b c l h =
    elim (key_cmp b c) as (λ o. key_cmp b c ≡ o → is_gt o ≡ false → key_cmp a c ≡ Less) [
      | Less ↦ λ e _. key_cmp_total.trans a b c l e
      | Equal ↦ λ e _. sym (alike_right key_cmp_total b c a e) ∙ l
      | Greater ↦ λ _ g. absurd (true≢false g)
    ] refl h

module _ (prefix least : List ℕ) (begins : BeginsWith prefix least) (below : (k : List ℕ) → length k ≡ 4 → BeginsWith prefix k → IsLeBy key_cmp least k) where
  pub starts_after : (after : List ℕ) → IsLeBy key_cmp least after → StartsRun prefix (Some after) (Excluded after)
  starts_after after h = record {
    least = least;
    begins = begins;
    reaches = λ k e a. a.later;
    from_least = λ k l. upto key_cmp_total least after k h (ap is_gt l);
    later = λ k l. l;
  }

  pub starts_at : (after : Option (List ℕ)) → IfSome after (λ a. IsLtBy key_cmp a least) → StartsRun prefix after (Included least)
  starts_at after h = record {
    least = least;
    begins = begins;
    reaches = λ k e a. below k e a.begins;
    from_least = λ k l. l;
    later = λ k l. later_than after k h l;
  }
    where
      later_than : (after : Option (List ℕ)) (k : List ℕ) → IfSome after (λ a. IsLtBy key_cmp a least) → IsLeBy key_cmp least k → IfSome after (λ a. IsLtBy key_cmp a k)
      later_than None k h l = tt
      later_than (Some a) k h l = lt_of_lt_of_le a least k h l

ge_is : (r : Ordering) (b : Bool) → is_ge r ≡ b → is_lt r ≡ not b
ge_is Less b e = ap not e
ge_is Equal b e = ap not e
ge_is Greater b e = ap not e

-- what `>=` of two keys says
ge_by_cmp : (a b : List ℕ) → partial_ge (slice_partial_cmp (λ x y. Some (nat_cmp x y))) a b ≡ is_ge (key_cmp a b)
ge_by_cmp a b = ap (is_some_and is_ge) (lists_agrees (λ x y. refl) a b)

less_turned : (r s : Ordering) → s ≡ ordering_reverse r → is_ge r ≡ true → is_gt s ≡ false
less_turned Less s e h = absurd (true≢false (sym h))
less_turned Equal s e h = ap is_gt e
less_turned Greater s e h = ap is_gt e

less_from : (r : Ordering) → is_ge r ≡ false → r ≡ Less
less_from Less e = refl
less_from Equal e = absurd (true≢false e)
less_from Greater e = absurd (true≢false e)

pub le_from_ge : (a b : List ℕ) → true ≡ partial_ge (slice_partial_cmp (λ x y. Some (nat_cmp x y))) a b → IsLeBy key_cmp b a
le_from_ge a b e = less_turned (key_cmp a b) (key_cmp b a) (key_cmp_total.antisymm b a) (sym (ge_by_cmp a b) ∙ sym e)

pub lt_from_not_ge : (a b : List ℕ) → false ≡ partial_ge (slice_partial_cmp (λ x y. Some (nat_cmp x y))) a b → IsLtBy key_cmp a b
lt_from_not_ge a b e = less_from (key_cmp a b) (sym (ge_by_cmp a b) ∙ sym e)

-- ---- in the words of the code

pub mirror_at : (order : Order) (trees : Trees) (tree : BTreeSet (List ℕ)) (quads seen : IdQuads) → tree ≡ tree_of order trees → Mirrors trees quads → quads ≡ seen
    → (k : List ℕ) → contains key_cmp tree k ≡ is_key_of seen order k
mirror_at order trees tree quads seen is mirror view k = ap (λ s. contains key_cmp s k) is ∙ mirror.keys order k ∙ ap (λ q. is_key_of q order k) view

pub begins_from : (prefix key : List ℕ) (r : Bool) → r ≡ starts_with eqb key prefix → r ≡ true → BeginsWith prefix key
begins_from prefix key r e t = sym ((bytes_decides prefix (take (length prefix) key)).0 (sym e ∙ t))

pub not_begins_from : (prefix key : List ℕ) (r : Bool) → r ≡ starts_with eqb key prefix → r ≡ false → ¬ BeginsWith prefix key
not_begins_from prefix key r e f b = true≢false (sym ((bytes_decides prefix (take (length prefix) key)).1 (sym b)) ∙ sym e ∙ f)
