-- The first LF of a text, as memchr tells it.
use Rattle.std.proofs.Common.{◌≡◌, ℕ, ◌+◌, ◌<◌, true, List, [], ◌∷◌, length, Option, Some, None, refl, sym, ap, ◌∙◌, arith, nat_eq, suc, zero, zero-add, inl, inr}
use Rattle.std.proofs.lemmas.Bool.Decides.{eqb_tells}
use Rattle.std.specs.Prelude.{slice_index}
use Rattle.std.specs.List.{position_from}
use Rattle.memchr.specs.Find.{IsFirstByte, is_byte}

abbrev passes : ℕ → Type 0
passes b = nat_eq b 10 ≡ true

-- no byte passes
none_passes : (xs : List ℕ) (j : ℕ) → ((k : ℕ) → k < length xs → ¬ passes (slice_index xs k)) → position_from (λ b. nat_eq b 10) j xs ≡ None
none_passes [] j miss = refl
none_passes (b ∷ bs) j miss =
    elim (eqb_tells b 10) [
      | inl h ↦ absurd (miss 0 (omega arith) h.0)
      | inr h ↦ rw h.0 (none_passes bs (j + 1) (λ k l. miss (suc k) (omega (arith, l))))
    ]

-- the byte at place k passes, and none before it
first_passes : (xs : List ℕ) (j k : ℕ) → k < length xs → ((i : ℕ) → i < k → ¬ passes (slice_index xs i)) → passes (slice_index xs k) → position_from (λ b. nat_eq b 10) j xs ≡ Some (j + k)
first_passes [] j k h miss is = absurd (omega (arith, h))
first_passes (b ∷ bs) j zero h miss is =
    let e : nat_eq b 10 ≡ true = is in
    let here : j ≡ j + 0 = omega arith in
    rw e (ap (λ (n : ℕ). Some n) here)
first_passes (b ∷ bs) j (suc k) h miss is =
    elim (eqb_tells b 10) [
      | inl found ↦ absurd (miss 0 (omega arith) found.0)
      | inr other ↦
          let there : (j + 1) + k ≡ j + suc k = omega arith in
          rw other.0 (first_passes bs (j + 1) k (omega (arith, h)) (λ i l. miss (suc i) (omega (arith, l))) is ∙ ap (λ (n : ℕ). Some n) there)
    ]

pub first_end : (xs : List ℕ) (r : Option ℕ) → IsFirstByte (is_byte 10) xs r → r ≡ position_from (λ b. nat_eq b 10) 0 xs
first_end xs None miss = sym (none_passes xs 0 (λ k h. miss k (omega arith) h))
first_end xs (Some k) found =
    sym (first_passes xs 0 k found.0.high (λ i l. found.0.before i (omega arith) l) found.1 ∙ ap (λ (n : ℕ). Some n) (zero-add k))
