-- Lists whose members belong together.
use Rattle.std.proofs.Common.{◌≡◌, ℕ, zero, suc, arith, ◌+◌, ◌<◌, List, [], ◌∷◌, ◌++◌, map, map-id, take, get_or, length, refl, sym, ap, subst, ◌∙◌, true, inl, inr}
use mathlib.Core.Bool.{true≢false}
use Rattle.std.specs.Prelude.{All, Option, None}
use Rattle.std.specs.Iterator.{Yields}
use Rattle.std.specs.Map.Iter.{TakesFirst}
use Rattle.std.proofs.lemmas.List.{take_more}
use Rattle.std.proofs.lemmas.Map.Iter.{iter_end}
use Rattle.std.specs.declared.cmp.Ordering.{Ordering}
use Rattle.std.specs.Ordering.{eq_by_cmp}
use Rattle.std.specs.Cmp.{IsTotalOrder}
use Rattle.std.specs.FinSet as set
use Rattle.std.specs.FinSet.{IsAntisymmetric, contains-empty, contains-insert}
use Rattle.rdf_orders.proofs.CallerLemmas.{is_either}
use Rattle.rdf_store.specs.Inside.Numbers.{Matched}
use Rattle.rdf_store.proofs.ImageLemmas.{same_of_eq}

module _ {A B : Type 0} where
  pub matched_push : (P : A → B → Type 0) (xs : List A) (ys : List B) (x : A) (y : B) → Matched P xs ys → P x y → Matched P (xs ++ x ∷ []) (ys ++ y ∷ [])
  matched_push P [] [] x y m p = (p, tt)
  matched_push P [] (b ∷ ys) x y m p = absurd m
  matched_push P (a ∷ xs) [] x y m p = absurd m
  matched_push P (a ∷ xs) (b ∷ ys) x y m p = (m.0, matched_push P xs ys x y m.1 p)

  pub matched_to : (P Q : A → B → Type 0) → ((x : A) (y : B) → P x y → Q x y) → (xs : List A) (ys : List B) → Matched P xs ys → Matched Q xs ys
  matched_to P Q f [] [] m = tt
  matched_to P Q f [] (b ∷ ys) m = absurd m
  matched_to P Q f (a ∷ xs) [] m = absurd m
  matched_to P Q f (a ∷ xs) (b ∷ ys) m = (f a b m.0, matched_to P Q f xs ys m.1)

  -- what holds of each that belongs to some one
  pub matched_all : (P : A → B → Type 0) (Q : A → Type 0) → ((x : A) (y : B) → P x y → Q x) → (xs : List A) (ys : List B) → Matched P xs ys → All Q xs
  matched_all P Q each [] ys m k d lt = absurd (omega arith)
  matched_all P Q each (a ∷ xs) [] m k d lt = absurd m
  matched_all P Q each (a ∷ xs) (b ∷ ys) m zero d lt = each a b m.0
  matched_all P Q each (a ∷ xs) (b ∷ ys) m (suc k) d lt = matched_all P Q each xs ys m.1 k d (omega arith)

  -- a function that takes each to its fellow
  pub matched_map : (P : A → B → Type 0) (f : A → B) → ((x : A) (y : B) → P x y → f x ≡ y) → (xs : List A) (ys : List B) → Matched P xs ys → map f xs ≡ ys
  matched_map P f is [] [] m = refl
  matched_map P f is [] (b ∷ ys) m = absurd m
  matched_map P f is (a ∷ xs) [] m = absurd m
  matched_map P f is (a ∷ xs) (b ∷ ys) m = λ i. is a b m.0 i ∷ matched_map P f is xs ys m.1 i

  -- what holds of each that belongs to some one holds of each member of the set
  pub matched_members : {K : Type 0} {R : K → K → Ordering} → IsTotalOrder R → IsAntisymmetric R → (P : A → B → Type 0) (g : A → K) (Q : K → Type 0) → ((x : A) (y : B) → P x y → Q (g x))
      → (xs : List A) (ys : List B) → Matched P xs ys → (k : K) → set.contains (set.from_list {R = R} (map g xs)) k ≡ true → Q k
  matched_members {R = R} o apart P g Q each [] [] m k h = absurd (true≢false (sym h ∙ contains-empty R k))
  matched_members o apart P g Q each [] (b ∷ ys) m k h = absurd m
  matched_members o apart P g Q each (a ∷ xs) [] m k h = absurd m
  matched_members {R = R} o apart P g Q each (a ∷ xs) (b ∷ ys) m k h =
      elim (is_either (eq_by_cmp R k (g a)) (set.contains (set.from_list {R = R} (map g xs)) k) (sym (contains-insert o (set.from_list (map g xs)) (g a) k) ∙ h)) [
        | inl same ↦ subst Q (sym (same_of_eq o apart k (g a) same)) (each a b m.0)
        | inr more ↦ matched_members o apart P g Q each xs ys m.1 k more
      ]

pub matched_nothing : {A B : Type 0} (P : A → B → Type 0) (xs : List A) (ys : List B) → Matched P xs ys → ys ≡ [] → xs ≡ []
matched_nothing P [] ys m e = refl
matched_nothing P (x ∷ xs) [] m e = absurd m
matched_nothing P (x ∷ xs) (y ∷ ys) m e = cc

pub take_next : {A : Type 0} (xs : List A) (i : ℕ) (x : A) → i < length xs → x ≡ get_or xs i x → take (i + 1) xs ≡ take i xs ++ x ∷ []
take_next xs i x lt e = take_more xs i x lt ∙ ap (λ y. take i xs ++ y ∷ []) (sym e)

pub matched_next : {A B : Type 0} (P Q : A → B → Type 0) → ((x : A) (y : B) → P x y → Q x y) → (xs xs' : List A) (ys : List B) (i : ℕ) (x : A) (y : B) → Matched P xs (take i ys) → Q x y
    → xs' ≡ xs ++ x ∷ [] → i < length ys → y ≡ get_or ys i y → Matched Q xs' (take (i + 1) ys)
matched_next P Q f xs xs' ys i x y m q e lt is =
    subst (λ zs. Matched Q zs (take (i + 1) ys)) (sym e)
    (subst (Matched Q (xs ++ x ∷ [])) (sym (take_next ys i y lt is)) (matched_push Q xs (take i ys) x y (matched_to P Q f xs (take i ys) m) q))

-- a `for` over what gives a list by value has taken all of it at its end
pub all_given : {X : Type 0} (all xs s t u : List X) (r : Option X) → s ≡ all → Yields (TakesFirst (λ (x : X). x)) s xs t → r ≡ None → TakesFirst (λ (x : X). x) t r u → xs ≡ all
all_given all xs s t u r start y none step = sym (map-id xs) ∙ (iter_end (λ x. x) all xs s t u r start y none step).0
