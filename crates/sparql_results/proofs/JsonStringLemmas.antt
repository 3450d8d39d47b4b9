-- A string of JSON is read back, and ends at its quote.
use Rattle.std.proofs.Common.{◌≡◌, ◌≢◌, ◌∙◌, ap, refl, sym, subst, inl, inr, ℕ, ◌+◌, ◌*◌, ◌/◌, ◌%◌, ◌<◌, ◌≤◌, arith, Bool, true, false, ◌==◌, if◌then◌else◌, List, [], ◌∷◌, ◌++◌, length, take, drop, get_or, codes, nat_lt, append_assoc, true≢false, Option, Some, None}
use Rattle.std.specs.Char.{digit_char, digit_value}
use Rattle.std.specs.List.{flat_map}
use Rattle.std.proofs.lemmas.Bool.{cases_Bool, eqb-true, eqb-false, ltb-true}
use Rattle.std.proofs.lemmas.Bool.Decides.{nat_tests}
use Rattle.std.proofs.lemmas.List.{drop_at, take_at}
use Rattle.std.proofs.lemmas.Str.{digit_value-digit_char}
use Rattle.rdf_terms.specs.Escapes.{Writes, number_after}
use Rattle.sparql_results.specs.JsonText.{json_byte, json_string}
use Rattle.sparql_results.specs.JsonReading.{IsJsonByte, JsonTextsAreRead, JsonTextsAreReadOnce, letter_value}

-- ---- a byte, as it is written

if_cases : (P : List ℕ → Type 0) (b : Bool) (x y : List ℕ) → (b ≡ true → P x) → (b ≡ false → P y) → P (if b then x else y)
if_cases P true x y f g = f refl
if_cases P false x y f g = g refl

by_letter : (c letter value : ℕ) → (c == value) ≡ true → letter_value letter ≡ Some value → IsJsonByte (92 ∷ letter ∷ []) c
by_letter c letter value h e = inr (inl (letter, refl, e ∙ ap Some (sym (eqb-true c value h))))

value_below : (n : ℕ) → n < 16 → digit_value (digit_char n) < 16
value_below n h = subst (λ (v : ℕ). v < 16) (sym (digit_value-digit_char n (omega arith))) h

digits_value : (c : ℕ) → c < 32 → number_after 0 (48 ∷ 48 ∷ digit_char (c / 16) ∷ digit_char (c % 16) ∷ []) ≡ c
digits_value c h =
    let high : digit_value (digit_char (c / 16)) ≡ c / 16 = digit_value-digit_char (c / 16) (omega arith) in
    let low : digit_value (digit_char (c % 16)) ≡ c % 16 = digit_value-digit_char (c % 16) (omega arith) in
    ap (λ (v : ℕ). ((0 * 16 + v) * 16) + digit_value (digit_char (c % 16))) high ∙ ap (λ (v : ℕ). ((0 * 16 + c / 16) * 16) + v) low ∙ omega arith

by_number : (c : ℕ) → nat_lt c 32 ≡ true → IsJsonByte (codes "\\u00" ++ digit_char (c / 16) ∷ digit_char (c % 16) ∷ []) c
by_number c h =
    let below : c < 32 = ltb-true c 32 h in
    inr (inr (
      48 ∷ 48 ∷ digit_char (c / 16) ∷ digit_char (c % 16) ∷ [],
      refl,
      (omega arith, (omega arith, (value_below (c / 16) (omega arith), (value_below (c % 16) (omega arith), tt)))),
      refl,
      digits_value c below,
      omega arith,
    ))

by_itself : (c : ℕ) → (c == 34) ≡ false → (c == 92) ≡ false → nat_lt c 32 ≡ false → IsJsonByte (c ∷ []) c
by_itself c q b l = inl (refl, grind (arith, nat_tests), eqb-false c 34 q, eqb-false c 92 b)

byte_read : (c : ℕ) → IsJsonByte (json_byte c) c
byte_read c =
    let P : List ℕ → Type 0 = λ w. IsJsonByte w c in
    if_cases P (c == 34) _ _ (λ h. by_letter c 34 34 h refl)
    (λ quote. if_cases P (c == 92) _ _ (λ h. by_letter c 92 92 h refl)
    (λ backslash. if_cases P (c == 8) _ _ (λ h. by_letter c 98 8 h refl)
    (λ _. if_cases P (c == 9) _ _ (λ h. by_letter c 116 9 h refl)
    (λ _. if_cases P (c == 10) _ _ (λ h. by_letter c 110 10 h refl)
    (λ _. if_cases P (c == 12) _ _ (λ h. by_letter c 102 12 h refl)
    (λ _. if_cases P (c == 13) _ _ (λ h. by_letter c 114 13 h refl)
    (λ _. if_cases P (nat_lt c 32) _ _ (λ h. by_number c h) (λ low. by_itself c quote backslash low))))))))

pub json_texts_are_read : JsonTextsAreRead
json_texts_are_read [] = refl
json_texts_are_read (c ∷ cs) = (json_byte c, flat_map json_byte cs, refl, byte_read c, json_texts_are_read cs)

-- ---- what stands first, and what follows it

abbrev or_zero : Option ℕ → ℕ
or_zero (Some n) = n
or_zero None = 0

abbrev first : List ℕ → ℕ
first [] = 0
first (c ∷ cs) = if c == 92 then (if get_or cs 0 0 == 117 then number_after 0 (take 4 (drop 1 cs)) else or_zero (letter_value (get_or cs 0 0))) else c

abbrev rest : List ℕ → List ℕ
rest [] = []
rest (c ∷ cs) = if c == 92 then (if get_or cs 0 0 == 117 then drop 4 (drop 1 cs) else drop 1 cs) else cs

record Reads (b : ℕ) (z text : List ℕ) : Type 0 where
  byte : first text ≡ b
  after : rest text ≡ z
  no_quote : (get_or text 0 0 == 34) ≡ false
  some : 0 < length text

no_letter : (b : ℕ) {A : Type 0} → letter_value 117 ≡ Some b → A
no_letter b e = cc

ne_eqb : (b n : ℕ) → b ≢ n → (b == n) ≡ false
ne_eqb b n h = elim (cases_Bool (b == n)) [ inl is ↦ absurd (h (eqb-true b n is)) | inr not ↦ not ]

reads_unescaped : (b : ℕ) (z : List ℕ) → 32 ≤ b → b ≢ 34 → b ≢ 92 → Reads b z (b ∷ z)
reads_unescaped b z low quote backslash =
    let plain = ne_eqb b 92 backslash in
    record {
      byte = ap (λ (t : Bool). if t then (if get_or z 0 0 == 117 then number_after 0 (take 4 (drop 1 z)) else or_zero (letter_value (get_or z 0 0))) else b) plain;
      after = ap (λ (t : Bool). if t then (if get_or z 0 0 == 117 then drop 4 (drop 1 z) else drop 1 z) else z) plain;
      no_quote = ne_eqb b 34 quote;
      some = omega arith;
    }

reads_letter : (letter b : ℕ) (z : List ℕ) → letter_value letter ≡ Some b → Reads b z (92 ∷ letter ∷ z)
reads_letter letter b z e = elim (cases_Bool (letter == 117)) [
  | inl is ↦ no_letter b (ap letter_value (sym (eqb-true letter 117 is)) ∙ e)
  | inr not ↦ record {
    byte = ap (λ (t : Bool). if t then number_after 0 (take 4 z) else or_zero (letter_value letter)) not ∙ ap or_zero e;
    after = ap (λ (t : Bool). if t then drop 4 z else z) not;
    no_quote = refl;
    some = omega arith;
  }
]

reads_number : (digits : List ℕ) (b : ℕ) (z : List ℕ) → length digits ≡ 4 → number_after 0 digits ≡ b → Reads b z (92 ∷ 117 ∷ (digits ++ z))
reads_number digits b z four e = record {
  byte = ap (number_after 0) (take_at digits z 4 four) ∙ e;
  after = drop_at digits z 4 four;
  no_quote = refl;
  some = omega arith;
}

reads : (unit : List ℕ) (b : ℕ) (z : List ℕ) → IsJsonByte unit b → Reads b z (unit ++ z)
reads unit b z (inl u) = subst (λ (t : List ℕ). Reads b z (t ++ z)) (sym u.0) (reads_unescaped b z u.1 u.2 u.3)
reads unit b z (inr (inl u)) = subst (λ (t : List ℕ). Reads b z (t ++ z)) (sym u.1) (reads_letter u.0 b z u.2)
reads unit b z (inr (inr u)) = subst (λ (t : List ℕ). Reads b z (t ++ z)) (sym u.1) (reads_number u.0 b z u.3 u.4)

pub json_texts_are_read_once : JsonTextsAreReadOnce
json_texts_are_read_once slice [] [] w v = refl
json_texts_are_read_once slice [] (c ∷ cs) w v =
    let front = reads v.0 c v.1 v.3 in absurd (omega (arith, front.some, ap length (sym w ∙ v.2)))
json_texts_are_read_once slice (b ∷ bs) [] w v =
    let front = reads w.0 b w.1 w.3 in absurd (omega (arith, front.some, ap length (sym v ∙ w.2)))
json_texts_are_read_once slice (b ∷ bs) (c ∷ cs) w v =
    let at_b = reads w.0 b w.1 w.3 in
    let at_c = reads v.0 c v.1 v.3 in
    let same : b ≡ c = sym at_b.byte ∙ ap first (sym w.2 ∙ v.2) ∙ at_c.byte in
    let after : w.1 ≡ v.1 = sym at_b.after ∙ ap rest (sym w.2 ∙ v.2) ∙ at_c.after in
    let more = json_texts_are_read_once v.1 bs cs (subst (λ (t : List ℕ). Writes IsJsonByte t bs) after w.4) v.4 in
    λ i. same i ∷ more i

-- ---- a string ends at its quote

split : (xs ys r s : List ℕ) → flat_map json_byte xs ++ 34 ∷ r ≡ flat_map json_byte ys ++ 34 ∷ s → (xs ≡ ys) × (r ≡ s)
split [] [] r s e = (refl, ap (drop 1) e)
split [] (y ∷ ys) r s e =
    absurd (true≢false (ap (λ (l : List ℕ). get_or l 0 0 == 34) (e ∙ append_assoc (json_byte y) (flat_map json_byte ys) (34 ∷ s))
    ∙ (reads (json_byte y) y (flat_map json_byte ys ++ 34 ∷ s) (byte_read y)).no_quote))
split (x ∷ xs) [] r s e =
    absurd (true≢false (ap (λ (l : List ℕ). get_or l 0 0 == 34) (sym e ∙ append_assoc (json_byte x) (flat_map json_byte xs) (34 ∷ r))
    ∙ (reads (json_byte x) x (flat_map json_byte xs ++ 34 ∷ r) (byte_read x)).no_quote))
split (x ∷ xs) (y ∷ ys) r s e =
    let at_x = reads (json_byte x) x (flat_map json_byte xs ++ 34 ∷ r) (byte_read x) in
    let at_y = reads (json_byte y) y (flat_map json_byte ys ++ 34 ∷ s) (byte_read y) in
    let whole = sym (append_assoc (json_byte x) (flat_map json_byte xs) (34 ∷ r)) ∙ e ∙ append_assoc (json_byte y) (flat_map json_byte ys) (34 ∷ s) in
    let more = split xs ys r s (sym at_x.after ∙ ap rest whole ∙ at_y.after) in
    let same : x ≡ y = sym at_x.byte ∙ ap first whole ∙ at_y.byte in
    ((λ i. same i ∷ more.0 i), more.1)

pub same_string : (x y r s : List ℕ) → json_string x ++ r ≡ json_string y ++ s → (x ≡ y) × (r ≡ s)
same_string x y r s e =
    split x y r s (sym (append_assoc (flat_map json_byte x) (codes "\"") r) ∙ ap (drop 1) e ∙ append_assoc (flat_map json_byte y) (codes "\"") s)
