-- Marks: where they are, and that they lie in a list. Other crates cite this file.
use Rattle.std.proofs.Common.{◌≡◌, ℕ, ◌<◌, ◌≤◌, Bool, true, false, cond, List, refl, sym, ap, ◌∙◌, subst, arith, Option, Some, None}
use Rattle.std.specs.Cmp.{tied_itself}
use Rattle.std.specs.Cmp.Lexicographic.{slice_cmp, nat_list_cmp_total}
use Rattle.std.specs.FinMap as map
use Rattle.std.specs.FinMap.{IsAntisymmetric, get-empty, get-insert, get-retain_keys, nat_cmp-IsAntisymmetric, slice_cmp-IsAntisymmetric}
use Rattle.std.specs.Ordering.{eq_by_cmp, is_eq, nat_cmp}
use Rattle.std.specs.declared.cmp.Ordering.{Ordering}
use Rattle.std.specs.declared.cmp.Ordering.TheVariants.{Less, Equal, Greater}
use Rattle.std.proofs.lemmas.Bool.Decides.{leb_tells}
use mathlib.Core.Bool.{true≢false}
use mathlib.Core.Logic.{inl, inr}
use Rattle.rdf_session.specs.History.{LieIn, Marks, is_upto, marks_upto}

-- ---- names

abbrev pub order : List ℕ → List ℕ → Ordering
order = slice_cmp nat_cmp

abbrev pub same : List ℕ → List ℕ → Bool
same = eq_by_cmp order

pub same_truth : (a b : Bool) → (a ≡ true → b ≡ true) → (b ≡ true → a ≡ true) → a ≡ b
same_truth true b f g = sym (f refl)
same_truth false true f g = g refl
same_truth false false f g = refl

pub order_apart : IsAntisymmetric order
order_apart = slice_cmp-IsAntisymmetric nat_cmp-IsAntisymmetric

pub equal_of : (r : Ordering) → is_eq r ≡ true → r ≡ Equal
equal_of Less e = absurd (true≢false (sym e))
equal_of Equal e = refl
equal_of Greater e = absurd (true≢false (sym e))

pub one_name : (q k : List ℕ) → same q k ≡ true → q ≡ k
one_name q k e = order_apart q k (equal_of (order q k) e)

pub same_itself : (q : List ℕ) → same q q ≡ true
same_itself q = ap is_eq (tied_itself nat_list_cmp_total q)

-- a mark that isn't past the place stays, and no other
pub upto_kept : (o : Option ℕ) (k place : ℕ) → cond (is_upto k o) o None ≡ Some place → (o ≡ Some place) × (place ≤ k)
upto_kept None k place e = absurd (no_place place e)
  where
    no_place : (j : ℕ) → None ≡ Some j → ⊥
    no_place j e = cc
upto_kept (Some mark) k place e =
    elim (leb_tells mark k) [
      | inl h ↦
          let is : Some mark ≡ Some place = sym (ap (λ b. cond b (Some mark) None) h.0) ∙ e in
          (is, subst (λ j. j ≤ k) (same_place mark place is) h.1)
      | inr h ↦ absurd (no_place place (sym (ap (λ b. cond b (Some mark) None) h.0) ∙ e))
    ]
  where
    same_place : (i j : ℕ) → Some i ≡ Some j → i ≡ j
    same_place i j e = cc

    no_place : (j : ℕ) → None ≡ Some j → ⊥
    no_place j e = cc

pub get_upto : (marks : Marks) (k : ℕ) (q : List ℕ) → map.get (marks_upto k marks) q ≡ cond (is_upto k (map.get marks q)) (map.get marks q) None
get_upto marks k q =
    get-retain_keys marks (λ name. is_upto k (map.get marks name)) q
    (λ x e. ap (λ name. is_upto k (map.get marks name)) (sym (order_apart q x e)))

-- ---- where marks are

-- a name at the cursor is there
pub place_marked : (name : List ℕ) (marks : Marks) (k : ℕ) → map.get (map.insert marks name k) name ≡ Some k
place_marked name marks k = get-insert nat_list_cmp_total marks name k name ∙ ap (λ b. cond b (Some k) (map.get marks name)) (same_itself name)

-- a mark up to the place is kept
pub place_kept : (name : List ℕ) (marks : Marks) (k j : ℕ) → map.get marks name ≡ Some k → k ≤ j → map.get (marks_upto j marks) name ≡ Some k
place_kept name marks k j e h =
    get_upto marks j name ∙ ap (λ o. cond (is_upto j o) o None) e
    ∙ elim (leb_tells k j) [ inl t ↦ ap (λ b. cond b (Some k) None) t.0 | inr t ↦ absurd (omega (arith, t.1, h)) ]

-- no name lies anywhere
pub lie_nowhere : (n : ℕ) → LieIn n map.empty
lie_nowhere n name place e = absurd (no_place place (sym (get-empty order name) ∙ e))
  where
    no_place : (j : ℕ) → None ≡ Some j → ⊥
    no_place j e = cc

-- those that are kept up to a place of the list lie in it
pub lie_kept : (n k : ℕ) (marks : Marks) → k ≤ n → LieIn n (marks_upto k marks)
lie_kept n k marks h name place e = let at = upto_kept (map.get marks name) k place (sym (get_upto marks k name) ∙ e) in omega (arith, at.1, h)

-- and so does a name that is put at a place of the list
pub lie_marked : (n k : ℕ) (name : List ℕ) (marks : Marks) → k ≤ n → LieIn n marks → LieIn n (map.insert marks name k)
lie_marked n k name marks h lie q place e =
    elim (same q name) as (λ b. cond b (Some k) (map.get marks q) ≡ Some place → place ≤ n) [
      | true ↦ λ is. subst (λ j. j ≤ n) (same_place k place is) h
      | false ↦ λ is. lie q place is
    ] (sym (get-insert nat_list_cmp_total marks name k q) ∙ e)
  where
    same_place : (i j : ℕ) → Some i ≡ Some j → i ≡ j
    same_place i j e = cc

-- ---- where a mark isn't

pub place_nowhere : (name : List ℕ) → map.get {X = ℕ} {R = order} map.empty name ≡ None
place_nowhere name = get-empty order name

-- a name that isn't put stays where it was
pub place_other : (name q : List ℕ) (marks : Marks) (k : ℕ) → same q name ≡ false → map.get (map.insert marks name k) q ≡ map.get marks q
place_other name q marks k e = get-insert nat_list_cmp_total marks name k q ∙ ap (λ b. cond b (Some k) (map.get marks q)) e

-- a name that is nowhere stays away
pub place_lost : (name : List ℕ) (marks : Marks) (j : ℕ) → map.get marks name ≡ None → map.get (marks_upto j marks) name ≡ None
place_lost name marks j e = get_upto marks j name ∙ ap (λ o. cond (is_upto j o) o None) e

-- and one past the place goes
pub place_past : (name : List ℕ) (marks : Marks) (k j : ℕ) → map.get marks name ≡ Some k → j < k → map.get (marks_upto j marks) name ≡ None
place_past name marks k j e h =
    get_upto marks j name ∙ ap (λ o. cond (is_upto j o) o None) e
    ∙ elim (leb_tells k j) [ inl t ↦ absurd (omega (arith, t.1, h)) | inr t ↦ ap (λ b. cond b (Some k) None) t.0 ]
