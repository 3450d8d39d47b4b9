-- A fold, item by item, and one that is over before its end.
use Rattle.std.proofs.Common.{◌≡◌, ◌∙◌, ap, sym, map, ℕ, suc, ◌+◌, ◌<◌, List, ◌∷◌, drop, length, get_or, drop-cons, add-one, Bool, true, false, [], Some, None, refl, true≢false}
use Rattle.std.specs.List.{fold}
use Rattle.sparql_values.specs.Values.{Truth, both, either, is_true, negated}

drop_is : {A : Type 0} (xs : List A) (i : ℕ) (x : A) → i < length xs → x ≡ get_or xs i x → drop i xs ≡ x ∷ drop (suc i) xs
drop_is {A = A} xs i x l is = drop-cons xs i x l ∙ ap (λ (y : A). y ∷ drop (suc i) xs) (sym is)

-- the fold over the items that are left, after the next one
pub next_fold : {A B C : Type 0} (g : C → B → C) (f : A → B) (xs : List A) (i : ℕ) (x : A) (now next whole : C) → i < length xs → x ≡ get_or xs i x
    → next ≡ g now (f x) → fold g now (map f (drop i xs)) ≡ whole → fold g next (map f (drop (i + 1) xs)) ≡ whole
next_fold {A = A} {C = C} g f xs i x now next whole l is e h =
    rw add-one (ap (λ (c : C). fold g c (map f (drop (suc i) xs))) e ∙ sym (ap (λ (ys : List A). fold g now (map f ys)) (drop_is xs i x l is)) ∙ h)

-- ---- what is true ends `||`, and what is false `&&`

stays_true : (ys : List Truth) → fold either (Some true) ys ≡ Some true
stays_true [] = refl
stays_true (y ∷ ys) = stays_true ys

stays_false : (ys : List Truth) → fold both (Some false) ys ≡ Some false
stays_false [] = refl
stays_false (y ∷ ys) = stays_false ys

pub either_ends : (now : Truth) (ys : List Truth) (whole : Truth) (b : Bool) → b ≡ is_true now → b ≡ true → fold either now ys ≡ whole → now ≡ whole
either_ends (Some true) ys whole b e t h = sym (stays_true ys) ∙ h
either_ends (Some false) ys whole b e t h = absurd (true≢false (sym t ∙ e))
either_ends None ys whole b e t h = absurd (true≢false (sym t ∙ e))

pub both_ends : (now turned : Truth) (ys : List Truth) (whole : Truth) (b : Bool) → turned ≡ negated now → b ≡ is_true turned → b ≡ true → fold both now ys ≡ whole → now ≡ whole
both_ends (Some false) turned ys whole b n e t h = sym (stays_false ys) ∙ h
both_ends (Some true) turned ys whole b n e t h = absurd (true≢false (sym t ∙ e ∙ ap is_true n))
both_ends None turned ys whole b n e t h = absurd (true≢false (sym t ∙ e ∙ ap is_true n))
