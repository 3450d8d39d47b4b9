-- Tests that are true or false.
use Rattle.std.proofs.Common.{◌≡◌, Bool, true, false, cond, ◌&&◌, ◌||◌, not, refl, sym, ap, ◌⊎◌, inl, inr}
use mathlib.Core.Bool.{true≢false}

pub both : {a b : Bool} → a ≡ true → b ≡ true → (a && b) ≡ true
both e f = λ i. e i && f i

pub first_of_both : (a b : Bool) → (a && b) ≡ true → a ≡ true
first_of_both true b e = refl
first_of_both false b e = e

pub second_of_both : (a b : Bool) → (a && b) ≡ true → b ≡ true
second_of_both true b e = e
second_of_both false b e = absurd (true≢false (sym e))

pub is_either : (a b : Bool) → (a || b) ≡ true → (a ≡ true) ⊎ (b ≡ true)
is_either true b e = inl refl
is_either false b e = inr e

pub either_first : (a b : Bool) → a ≡ true → (a || b) ≡ true
either_first a b e = ap (λ c. c || b) e

pub either_second : (a b : Bool) → b ≡ true → (a || b) ≡ true
either_second true b e = refl
either_second false b e = e

pub cases : (b : Bool) → (b ≡ true) ⊎ (b ≡ false)
cases true = inl refl
cases false = inr refl

pub false_of_absurd : (b : Bool) → (b ≡ true → ⊥) → not b ≡ true
false_of_absurd true f = absurd (f refl)
false_of_absurd false f = refl

pub not_both : (b : Bool) → b ≡ true → not b ≡ true → ⊥
not_both true e n = true≢false (sym n)
not_both false e n = true≢false (sym e)

pub and_false : (a : Bool) → (a && false) ≡ false
and_false true = refl
and_false false = refl

pub spread : (a b c : Bool) → (a && (b || c)) ≡ ((a && b) || (a && c))
spread true b c = refl
spread false b c = refl

pub or_of_cond : (b c : Bool) → cond b true c ≡ (b || c)
or_of_cond true c = refl
or_of_cond false c = refl

pub and_of_cond : (b c : Bool) → cond b false c ≡ (not b && c)
and_of_cond true c = refl
and_of_cond false c = refl
