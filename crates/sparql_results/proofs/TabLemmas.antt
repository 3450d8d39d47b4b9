-- Where a text has no tab, nothing of it is written otherwise.
use Rattle.std.proofs.Common.{◌≡◌, refl, sym, ap, inl, inr, ℕ, suc, zero, ◌<◌, ◌==◌, nat_eq, true, false, List, [], ◌∷◌, length, Option, Some, None, arith}
use Rattle.std.specs.Prelude.{is_some, slice_index}
use Rattle.std.specs.List.{flat_map, list_any}
use Rattle.std.proofs.lemmas.Bool.{or_parts}
use Rattle.std.proofs.lemmas.Bool.Decides.{eqb_tells}
use Rattle.memchr.specs.Find.{IsFirstByte, is_byte}
use Rattle.sparql_results.specs.ResultsText.{without_tab}

abbrev is_tab : ℕ → Type 0
is_tab c = nat_eq c 9 ≡ true

none_tab : (xs : List ℕ) → ((k : ℕ) → k < length xs → ¬ is_tab (slice_index xs k)) → list_any (λ c. c == 9) xs ≡ false
none_tab [] miss = refl
none_tab (b ∷ bs) miss =
    elim (eqb_tells b 9) [
      | inl h ↦ absurd (miss 0 (omega arith) h.0)
      | inr h ↦ rw h.0 (none_tab bs (λ k l. miss (suc k) (omega (arith, l))))
    ]

some_tab : (xs : List ℕ) (k : ℕ) → k < length xs → is_tab (slice_index xs k) → list_any (λ c. c == 9) xs ≡ true
some_tab [] k h is = absurd (omega (arith, h))
some_tab (b ∷ bs) zero h is =
    let e : nat_eq b 9 ≡ true = is in
    rw e refl
some_tab (b ∷ bs) (suc k) h is =
    elim (eqb_tells b 9) [
      | inl found ↦ rw found.0 refl
      | inr other ↦ rw other.0 (some_tab bs k (omega (arith, h)) is)
    ]

-- what memchr tells
pub first_tab : (xs : List ℕ) (r : Option ℕ) → IsFirstByte (is_byte 9) xs r → is_some r ≡ list_any (λ c. c == 9) xs
first_tab xs None miss = sym (none_tab xs (λ k h. miss k (omega arith) h))
first_tab xs (Some k) found = sym (some_tab xs k found.0.high found.1)

pub no_tabs : (xs : List ℕ) → list_any (λ c. c == 9) xs ≡ false → flat_map without_tab xs ≡ xs
no_tabs [] h = refl
no_tabs (b ∷ bs) h =
    let parts = or_parts (b == 9) (list_any (λ c. c == 9) bs) h in
    rw parts.0 (ap (λ (t : List ℕ). b ∷ t) (no_tabs bs parts.1))
