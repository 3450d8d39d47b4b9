-- Over the characters that stand for themselves, found by their bytes.
use Rattle.std.proofs.Common.{◌≡◌, ◌<◌, ◌≤◌, ◌||◌, ◌∙◌, ap, refl, sym, subst, inl, inr, arith, ℕ, zero, suc, Bool, true, false, eqb, List, [], ◌∷◌, ◌++◌, length, take, drop, get_or, Option, Some, None, length-append, take-append-drop}
use Rattle.std.proofs.lemmas.Bool.{cases_Bool, cases_lt, or_from, or_parts, eqb-true, or_cases, cond-true, lt-ltb}
use Rattle.std.proofs.lemmas.List.{append-nil, take_all}
use Rattle.std.proofs.lemmas.List.Folds.{list_any-append}
use Rattle.std.proofs.lemmas.List.Quantifiers.{position-Some}
use Rattle.std.proofs.lemmas.List.Sums.{fails_before_first}
use Rattle.std.proofs.lemmas.Str.{IsCharBoundary-before_ascii, IsUtf8-take, IsUtf8-from_ascii, chars-IsAscii, chars-append, chars-nil, encodes-chars, encode_ascii}
use Rattle.std.proofs.Math.Seq.{drop-cons}
use Rattle.std.specs.Char.{encode_utf8}
use Rattle.std.specs.List.{list_any, position, position_or_len}
use Rattle.std.specs.Str.{chars, encode_utf8_all, IsAscii, IsCharBoundary, IsUtf8}
use Rattle.rdf_terms.specs.Reading.{LeadsTo}
use Rattle.rdf_terms.specs.Runs.{IsPast, IsStopped, ends_run}
use Rattle.rdf_terms.proofs.OptionLemmas.{none_is}
use Rattle.rdf_terms.proofs.RunLemmas.{IsOne, one_shorter}

-- what passes the test is ASCII
abbrev pub IsLow : (ℕ → Bool) → Type 0
IsLow stops = (b : ℕ) → stops b ≡ true → b < 128

-- ---- the bytes before the first that passes

none_before : (stops : ℕ → Bool) (n : ℕ) (bs : List ℕ) → ((k : ℕ) → k < n → stops (get_or bs k 0) ≡ false) → list_any stops (take n bs) ≡ false
none_before stops zero bs h = refl
none_before stops (suc n) [] h = refl
none_before stops (suc n) (b ∷ bs) h =
    or_from (stops b) (list_any stops (take n bs)) (h 0 (omega arith)) (none_before stops n bs (λ k lt. h (suc k) (omega arith)))

pub front_lacks : (stops : ℕ → Bool) (bs : List ℕ) (n : ℕ) → position stops bs ≡ Some n → list_any stops (take n bs) ≡ false
front_lacks stops bs n e = none_before stops n bs (position-Some stops bs n 0 e).2

pub whole_lacks : (stops : ℕ → Bool) (bs : List ℕ) → position stops bs ≡ None → list_any stops bs ≡ false
whole_lacks stops bs e =
    elim (cases_lt (position_or_len stops bs) (length bs)) [
      | inl below ↦
          none_is (position_or_len stops bs) (sym e ∙ cond-true _ (Some (position_or_len stops bs)) None (lt-ltb (position_or_len stops bs) (length bs) below))
      | inr past ↦
          sym (ap (list_any stops) (take_all (length bs) bs (omega arith)))
          ∙ none_before stops (length bs) bs (λ k lt. fails_before_first stops bs k 0 (omega arith))
    ]

pub may_stop : (stops : ℕ → Bool) → IsLow stops → (bs : List ℕ) (n : ℕ) → position stops bs ≡ Some n → IsCharBoundary bs n
may_stop stops low bs n e =
    let p = position-Some stops bs n 0 e in
    IsCharBoundary-before_ascii bs n p.0 (low (get_or bs n 0) p.1)

-- ---- the characters whose bytes these are

one_lacks : (stops : ℕ → Bool) → IsLow stops → (c : ℕ) → list_any stops (encode_utf8 c) ≡ false → stops c ≡ false
one_lacks stops low c h =
    elim (cases_Bool (stops c)) [
      | inl bad ↦ (or_parts (stops c) (list_any stops []) (sym (ap (list_any stops) (encode_ascii c (low c bad))) ∙ h)).0
      | inr good ↦ good
    ]

all_lack : (stops : ℕ → Bool) → IsLow stops → (cs : List ℕ) → list_any stops (encode_utf8_all cs) ≡ false → list_any stops cs ≡ false
all_lack stops low [] h = refl
all_lack stops low (c ∷ cs) h =
    let parts = or_parts (list_any stops (encode_utf8 c)) (list_any stops (encode_utf8_all cs)) (sym (list_any-append stops (encode_utf8 c) (encode_utf8_all cs)) ∙ h) in
    or_from (stops c) (list_any stops cs) (one_lacks stops low c parts.0) (all_lack stops low cs parts.1)

chars_lack : (stops : ℕ → Bool) → IsLow stops → (bs : List ℕ) → IsUtf8 bs → list_any stops bs ≡ false → list_any stops (chars bs) ≡ false
chars_lack stops low bs utf8 h = all_lack stops low (chars bs) (ap (list_any stops) (encodes-chars bs utf8) ∙ h)

pub past_some : (stops : ℕ → Bool) → IsLow stops → (bs now : List ℕ) (n : ℕ) → IsUtf8 bs → chars bs ≡ now → position stops bs ≡ Some n → IsPast stops now (chars (drop n bs))
past_some stops low bs now n utf8 is e =
    let front : IsUtf8 (take n bs) = IsUtf8-take bs n utf8 (may_stop stops low bs n e) in (
      chars (take n bs),
      sym is ∙ ap chars (sym (take-append-drop n bs)) ∙ chars-append (take n bs) (drop n bs) front,
      chars_lack stops low (take n bs) front (front_lacks stops bs n e),
    )

pub past_none : (stops : ℕ → Bool) → IsLow stops → (bs now : List ℕ) → IsUtf8 bs → chars bs ≡ now → position stops bs ≡ None → IsPast stops now (chars [])
past_none stops low bs now utf8 is e = (
  now,
  sym (ap (λ (t : List ℕ). now ++ t) chars-nil ∙ append-nil now),
  ap (list_any stops) (sym is) ∙ chars_lack stops low bs utf8 (whole_lacks stops bs e),
)

-- ---- and there one stands that passes, or nothing

one_ascii : (b : ℕ) → b < 128 → IsAscii (b ∷ [])
one_ascii b h zero = h
one_ascii b h (suc i) = (let z : 0 < 128 = omega arith in z)

stopped_at : (stops : ℕ → Bool) → IsLow stops → (b : ℕ) (bs : List ℕ) → stops b ≡ true → IsStopped stops (chars (b ∷ bs))
stopped_at stops low b bs h =
    let ascii = one_ascii b (low b h) in
    let first : chars (b ∷ bs) ≡ b ∷ chars bs = chars-append (b ∷ []) bs (IsUtf8-from_ascii (b ∷ []) ascii) ∙ ap (λ (t : List ℕ). t ++ chars bs) (chars-IsAscii (b ∷ []) ascii) in
    subst (IsStopped stops) (sym first) h

pub stops_some : (stops : ℕ → Bool) → IsLow stops → (bs : List ℕ) (n : ℕ) → position stops bs ≡ Some n → IsStopped stops (chars (drop n bs))
stops_some stops low bs n e =
    let p = position-Some stops bs n 0 e in
    subst (λ (t : List ℕ). IsStopped stops (chars t)) (sym (drop-cons bs n 0 p.0)) (stopped_at stops low (get_or bs n 0) (drop (suc n) bs) p.1)

pub stops_none : (stops : ℕ → Bool) → IsStopped stops (chars [])
stops_none stops = subst (IsStopped stops) (sym chars-nil) tt

-- what ends a run in a string is ASCII, where its quote is
pub ends_low : (quote : ℕ) → quote < 128 → IsLow (ends_run quote)
ends_low quote low b e =
    elim (or_cases (eqb b 92) ((eqb b quote || eqb b 10) || eqb b 13) e) [
      | inl backslash ↦ omega (arith, eqb-true b 92 backslash)
      | inr other ↦
          elim (or_cases (eqb b quote || eqb b 10) (eqb b 13) other) [
            | inl more ↦ elim (or_cases (eqb b quote) (eqb b 10) more) [ inl same ↦ omega (arith, eqb-true b quote same) | inr feed ↦ omega (arith, eqb-true b 10 feed) ]
            | inr return ↦ omega (arith, eqb-true b 13 return)
          ]
    ]

-- one goes no further back
pub no_longer_past : (stops : ℕ → Bool) (from to : List ℕ) → IsPast stops from to → length to ≤ length from
no_longer_past stops from to p = omega (arith, ap length p.1, length-append p.0 to)

pub leads_past : (stops : ℕ → Bool) (from to : List ℕ) → IsPast stops from to → LeadsTo from to
leads_past stops from to p = (p.0, p.1)

-- a character behind them takes at least one
pub one_behind : {Form : List ℕ → ℕ → Type 0} (one : List ℕ → Option (ℕ × List ℕ)) (last : ℕ) → IsOne Form one last
    → (stops : ℕ → Bool) (cs stop : List ℕ) (c : ℕ) (rest : List ℕ) → IsPast stops cs stop → one stop ≡ Some (c, rest) → length rest < length cs
one_behind one last is stops cs stop c rest past e =
    omega (arith, one_shorter one last is stop c rest e, no_longer_past stops cs stop past)
