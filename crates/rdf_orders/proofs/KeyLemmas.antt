-- Keys in their order, and sets of quads.
use Rattle.std.proofs.Common.{◌≡◌, ℕ, ◌<◌, Bool, true, false, ◌&&◌, List, [], ◌∷◌, length, take, refl, sym, ap, ◌∙◌, arith, ◌⊎◌, inl, inr, IsTrue, ◌↔◌, rules}
use Rattle.std.specs.Prelude.{Option, None, Some}
use mathlib.Core.Bool.{true≢false}
use Rattle.std.specs.declared.cmp.Ordering.{Ordering}
use Rattle.std.specs.declared.cmp.Ordering.TheVariants.{Less, Equal, Greater}
use Rattle.std.specs.Ordering.{nat_cmp, ordering_then, is_gt, is_eq, eq_by_cmp, MatchOrdering}
use Rattle.std.specs.Cmp.{IsTotalOrder, ranks, on_total, Equal-is, tied_itself}
use Rattle.std.specs.Cmp.Lexicographic.{nat_list_cmp_total}
use Rattle.std.specs.BTreeMap.Range.{IsLeBy}
use Rattle.std.specs.FinSet as set
use Rattle.std.specs.FinSet.{contains-retain, IsAntisymmetric, slice_cmp-IsAntisymmetric, nat_cmp-IsAntisymmetric}
use Rattle.rdf_orders.specs.declared.order.Order.{Order}
use Rattle.rdf_orders.specs.declared.order.Order.TheVariants.{Spo, Pos, Osp}
use Rattle.rdf_orders.specs.Quads.{IdQuad, IdQuads, key_in, key_cmp, id_quad_cmp, quad_at, matches}
use Rattle.rdf_orders.specs.Runs.{BeginsWith, IsUnbrokenRun, StandsTogether}

-- a comparison that is not greater is decided by the first numbers, or goes on behind equal ones
pub first_decides : (x y : ℕ) (r : Ordering) → is_gt (ordering_then (nat_cmp x y) r) ≡ false → (x < y) ⊎ ((x ≡ y) × (is_gt r ≡ false))
first_decides x y r =
    elim (nat_cmp x y) as (λ o. MatchOrdering o (x < y) (x ≡ y) (y < x) → is_gt (ordering_then o r) ≡ false → (x < y) ⊎ ((x ≡ y) × (is_gt r ≡ false))) [
      | Less ↦ λ l _. inl l
      | Equal ↦ λ e h. inr (e, h)
      | Greater ↦ λ _ h. absurd (true≢false h)
    ] (ranks x y)

-- what lies between two keys that begin with a prefix begins with it
pub prefix_between : (p a b c : List ℕ) → BeginsWith p a → BeginsWith p c → IsLeBy key_cmp a b → IsLeBy key_cmp b c → BeginsWith p b
prefix_between [] a b c pa pc ab bc = refl
prefix_between (x ∷ p) [] b c pa pc ab bc = cc
prefix_between (x ∷ p) (y ∷ a) b [] pa pc ab bc = cc
prefix_between (x ∷ p) (y ∷ a) [] (w ∷ c) pa pc ab bc = absurd (true≢false ab)
prefix_between (x ∷ p) (y ∷ a) (z ∷ b) (w ∷ c) pa pc ab bc =
    let yx : y ≡ x = cc in
    let wx : w ≡ x = cc in
    let ta : take (length p) a ≡ p = cc in
    let tc : take (length p) c ≡ p = cc in
    elim (first_decides y z (key_cmp a b) ab) [
      | inl l ↦ elim (first_decides z w (key_cmp b c) bc) [ inl m ↦ absurd (omega arith) | inr m ↦ absurd (omega (arith, m.0)) ]
      | inr l ↦ elim (first_decides z w (key_cmp b c) bc) [
        | inl m ↦ absurd (omega (arith, l.0))
        | inr m ↦ let zx : z ≡ x = cc in let t : take (length p) b ≡ p = prefix_between p a b c ta tc l.1 m.1 in cc
      ]
    ]

-- the quads whose keys begin with a prefix stand together
pub unbroken_from_prefix : (order : Order) (prefix : List ℕ) (test : IdQuad → Bool) → ((q : IdQuad) → BeginsWith prefix (key_in order q) ↔ IsTrue (test q)) → IsUnbrokenRun order test
unbroken_from_prefix order prefix test just a b c ta tc ab bc =
    (just b).0 (prefix_between prefix _ _ _ ((just a).1 ta) ((just c).1 tc) ab bc)

-- for each choice of bound places there is such a prefix in one of the orders
pub stands_together : (g : ℕ) (s p o : Option ℕ) → StandsTogether (matches g s p o)
stands_together g None None None = record { order = Spo; unbroken = unbroken_from_prefix Spo (g ∷ []) _ (λ q. search rules) }
stands_together g (Some s) None None = record { order = Spo; unbroken = unbroken_from_prefix Spo (g ∷ s ∷ []) _ (λ q. search rules) }
stands_together g (Some s) (Some p) None = record { order = Spo; unbroken = unbroken_from_prefix Spo (g ∷ s ∷ p ∷ []) _ (λ q. search rules) }
stands_together g (Some s) (Some p) (Some o) = record { order = Spo; unbroken = unbroken_from_prefix Spo (g ∷ s ∷ p ∷ o ∷ []) _ (λ q. search rules) }
stands_together g None (Some p) None = record { order = Pos; unbroken = unbroken_from_prefix Pos (g ∷ p ∷ []) _ (λ q. search rules) }
stands_together g None (Some p) (Some o) = record { order = Pos; unbroken = unbroken_from_prefix Pos (g ∷ p ∷ o ∷ []) _ (λ q. search rules) }
stands_together g None None (Some o) = record { order = Osp; unbroken = unbroken_from_prefix Osp (g ∷ o ∷ []) _ (λ q. search rules) }
stands_together g (Some s) None (Some o) = record { order = Osp; unbroken = unbroken_from_prefix Osp (g ∷ o ∷ s ∷ []) _ (λ q. search rules) }

pub key_cmp_total : IsTotalOrder key_cmp
key_cmp_total = nat_list_cmp_total

pub id_quad_cmp_total : IsTotalOrder id_quad_cmp
id_quad_cmp_total = on_total (key_in Spo) nat_list_cmp_total

-- a key tells its quad
pub quad_at-key_in : (order : Order) (q : IdQuad) → quad_at order (key_in order q) ≡ q
quad_at-key_in Spo q = refl
quad_at-key_in Pos q = refl
quad_at-key_in Osp q = refl

pub same_quad : (order : Order) (x y : IdQuad) → key_cmp (key_in order x) (key_in order y) ≡ Equal → x ≡ y
same_quad order x y e =
    sym (quad_at-key_in order x) ∙ ap (quad_at order) (slice_cmp-IsAntisymmetric nat_cmp-IsAntisymmetric _ _ e) ∙ quad_at-key_in order y

pub id_quad_cmp-IsAntisymmetric : IsAntisymmetric id_quad_cmp
id_quad_cmp-IsAntisymmetric x y e = same_quad Spo x y e

pub contains_kept : (quads : IdQuads) (test : IdQuad → Bool) (q : IdQuad) → set.contains (set.retain quads test) q ≡ (set.contains quads q && test q)
contains_kept quads test q = contains-retain quads test q (λ x e. ap test (sym (id_quad_cmp-IsAntisymmetric q x e)))

pub same_from_eq : (x y : IdQuad) → eq_by_cmp id_quad_cmp x y ≡ true → x ≡ y
same_from_eq x y e = id_quad_cmp-IsAntisymmetric x y ((Equal-is (id_quad_cmp x y)).0 e)

pub eq_from_same : (x y : IdQuad) → x ≡ y → eq_by_cmp id_quad_cmp x y ≡ true
eq_from_same x y e = ap (eq_by_cmp id_quad_cmp x) (sym e) ∙ ap is_eq (tied_itself id_quad_cmp_total x)
