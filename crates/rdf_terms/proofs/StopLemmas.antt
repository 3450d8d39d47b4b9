-- Where the first that passes a test stands, sought in one part after another.
use Rattle.std.proofs.Common.{◌≡◌, ◌∙◌, ap, refl, sym, ℕ, zero, suc, ◌+◌, ◌<◌, ◌≤◌, min, arith, Bool, true, false, not, cond, List, [], ◌∷◌, length, take, drop, Some, None}
use Rattle.std.proofs.lemmas.Bool.{cond-false, cond-true, le-ltb, lt-ltb, ltb-false, ltb-true}
use Rattle.std.proofs.lemmas.Simd.{length-chunk}
use Rattle.std.specs.List.{position, position_or_len}

pub is_there : (p : ℕ → Bool) (xs : List ℕ) → position_or_len p xs < length xs → Some (position_or_len p xs) ≡ position p xs
is_there p xs h = sym (cond-true _ _ _ (lt-ltb _ _ h))

is_nowhere : (p : ℕ → Bool) (xs : List ℕ) → length xs ≤ position_or_len p xs → None ≡ position p xs
is_nowhere p xs h = sym (cond-false _ _ _ (le-ltb _ _ h))

told : (b : Bool) (k n : ℕ) → Some k ≡ cond b (Some n) None → (b ≡ true) × (k ≡ n)
told true k n e = (refl, cc)
told false k n e = absurd (cc)

untold : (b : Bool) (n : ℕ) → None ≡ cond b (Some n) None → b ≡ false
untold true n e = absurd (cc)
untold false n e = refl

pub place_is : (p : ℕ → Bool) (xs : List ℕ) (k : ℕ) → Some k ≡ position p xs → (k ≡ position_or_len p xs) × (k < length xs)
place_is p xs k e = let it = told _ k _ e in (it.1, omega (arith, it.1, ltb-true _ _ it.0))

nowhere_is : (p : ℕ → Bool) (xs : List ℕ) → None ≡ position p xs → length xs ≤ position_or_len p xs
nowhere_is p xs e = ltb-false _ _ (untold _ _ e)

rest_step : (b : Bool) (n r k : ℕ) → suc n ≤ cond (not b) (1 + k) 0 → (n ≤ k → n + r ≡ k) → suc n + r ≡ cond (not b) (1 + k) 0
rest_step true n r k h others = absurd (omega (arith, h))
rest_step false n r k h others = omega (arith, others (omega arith))

-- behind a front where none does
place_in_rest : (p : ℕ → Bool) (n : ℕ) (xs : List ℕ) → n ≤ position_or_len p xs → n + position_or_len p (drop n xs) ≡ position_or_len p xs
place_in_rest p zero xs h = omega arith
place_in_rest p (suc n) [] h = absurd (omega (arith, h))
place_in_rest p (suc n) (x ∷ xs) h = rest_step (p x) n (position_or_len p (drop n xs)) (position_or_len p xs) h (place_in_rest p n xs)

front_step : (b : Bool) (m r k : ℕ) → r ≡ min m k → cond (not b) (1 + r) 0 ≡ min (suc m) (cond (not b) (1 + k) 0)
front_step true m r k e = omega arith
front_step false m r k e = omega arith

place_in_front : (p : ℕ → Bool) (m : ℕ) (xs : List ℕ) → position_or_len p (take m xs) ≡ min m (position_or_len p xs)
place_in_front p zero xs = omega arith
place_in_front p (suc m) [] = omega arith
place_in_front p (suc m) (x ∷ xs) = front_step (p x) m (position_or_len p (take m xs)) (position_or_len p xs) (place_in_front p m xs)

-- the part from n on, as long as m, behind a front where none passes
place_in_part : (p : ℕ → Bool) (n m : ℕ) (xs : List ℕ) → n ≤ position_or_len p xs → n + m ≤ length xs → n + position_or_len p (take m (drop n xs)) ≡ min (n + m) (position_or_len p xs)
place_in_part p n m xs h long = omega (arith, place_in_front p m (drop n xs), place_in_rest p n xs h)

pub some_in_part : (p : ℕ → Bool) (n m : ℕ) (xs : List ℕ) (k : ℕ) → n ≤ position_or_len p xs → n + m ≤ length xs → Some k ≡ position p (take m (drop n xs))
    → Some (n + k) ≡ position p xs
some_in_part p n m xs k h long e =
    let there = place_is p (take m (drop n xs)) k e in
    let same : n + k ≡ position_or_len p xs = omega (arith, there, place_in_part p n m xs h long, length-chunk n m xs long) in
    ap Some same ∙ is_there p xs (omega (arith, same, there, long, length-chunk n m xs long))

pub none_in_part : (p : ℕ → Bool) (n m : ℕ) (xs : List ℕ) → n ≤ position_or_len p xs → n + m ≤ length xs → None ≡ position p (take m (drop n xs)) → n + m ≤ position_or_len p xs
none_in_part p n m xs h long e = omega (arith, nowhere_is p (take m (drop n xs)) e, length-chunk n m xs long, place_in_part p n m xs h long)

pub none_in_last : (p : ℕ → Bool) (n m : ℕ) (xs : List ℕ) → n ≤ position_or_len p xs → n + m ≡ length xs → None ≡ position p (take m (drop n xs)) → None ≡ position p xs
none_in_last p n m xs h long e = is_nowhere p xs (omega (arith, long, none_in_part p n m xs h (omega (arith, long)) e))
