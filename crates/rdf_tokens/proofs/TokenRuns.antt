-- Words in names: letters, digits and `_` of ASCII are gone over at once.
use Rattle.std.proofs.Common.{◌≡◌, ◌<◌, ◌≤◌, ℕ, true, false, eqb, ◌==◌, ◌||◌, List, [], ◌∷◌, length, Option, option_map, Some, refl, sym, ap, ◌∙◌, inl, inr, arith}
use Rattle.std.proofs.lemmas.Bool.{cases_Bool, eqb-true, ne_eqb, lt-leb, or_cases, or_left, or_right, true≢false}
use Rattle.std.proofs.Math.Dec.{leb}
use Rattle.std.specs.Char.{is_ascii_alphanumeric}
use Rattle.std.specs.Int.{is_in_range}
use Rattle.rdf_terms.specs.Characters.{is_pn_chars_base, is_pn_chars, is_pn_chars_u}
use Rattle.rdf_terms.specs.Dotted.{skip_dots, dotted_at}
use Rattle.rdf_terms.specs.Skips.{skip, one_of}
use Rattle.rdf_terms.proofs.CallerLemmas.{Shortens, unit_shortens, dotted_step, further, map_some, digit_part, skip_step, skip_stop, skip_end, skip_no_longer}
use Rattle.rdf_tokens.specs.Characters.{is_word_part}
use Rattle.rdf_tokens.specs.Inside.TokenReading.{name_part_at, local_part_at}
use Rattle.rdf_tokens.proofs.TokenUnits.{name_unit, local_unit}

-- ---- a letter, a digit and `_` are PN_CHARS

letter_part : (c : ℕ) → (is_in_range 65 90 c || is_in_range 97 122 c) ≡ true → is_pn_chars c ≡ true
unfolding is_pn_chars is_pn_chars_u is_pn_chars_base
letter_part c h = rw h refl

low_line_part : is_pn_chars 95 ≡ true
unfolding is_pn_chars is_pn_chars_u is_pn_chars_base
low_line_part = refl

word_part : (c : ℕ) → is_word_part c ≡ true → is_pn_chars c ≡ true
word_part c h =
    elim (or_cases (is_ascii_alphanumeric c) (c == 95) h) [
      | inl alphanumeric ↦
          elim (or_cases (is_in_range 48 57 c || is_in_range 65 90 c) (is_in_range 97 122 c) alphanumeric) [
            | inl front ↦
                elim (or_cases (is_in_range 48 57 c) (is_in_range 65 90 c) front) [
                  | inl digit ↦ digit_part c digit
                  | inr upper ↦ letter_part c (or_left (is_in_range 65 90 c) (is_in_range 97 122 c) upper)
                ]
            | inr lower ↦ letter_part c (or_right (is_in_range 65 90 c) (is_in_range 97 122 c) lower)
          ]
      | inr low_line ↦ ap is_pn_chars (eqb-true c 95 low_line) ∙ low_line_part
    ]

word_no_dot : (c : ℕ) → is_word_part c ≡ true → (c == 46) ≡ false
word_no_dot c h =
    elim (cases_Bool (eqb c 46)) [
      | inl is ↦ absurd (true≢false (sym h ∙ ap is_word_part (eqb-true c 46 is)))
      | inr not ↦ not
    ]

above : (lo hi c : ℕ) → hi < c → is_in_range lo hi c ≡ false
above lo hi c lt =
    elim (cases_Bool (leb lo c)) [
      | inl from ↦ rw (from, lt-leb c hi lt) refl
      | inr before ↦ rw before refl
    ]

-- what is no ASCII is no part of a word
pub high_no_word : (c : ℕ) → 128 ≤ c → is_word_part c ≡ false
high_no_word c h =
    rw (above 48 57 c (omega arith), above 65 90 c (omega arith), above 97 122 c (omega arith), ne_eqb c 95 (λ e. omega (arith, e))) refl

-- ---- what they are units of

name_takes : (c : ℕ) (cs : List ℕ) → is_word_part c ≡ true → name_part_at (c ∷ cs) ≡ Some cs
unfolding one_of
name_takes c cs h = rw (word_part c h) refl

local_takes : (c : ℕ) (cs : List ℕ) → is_word_part c ≡ true → local_part_at (c ∷ cs) ≡ Some cs
unfolding local_part_at
local_takes c cs h = rw (word_part c h) refl

-- units with dots between them end at the same place where a word is gone over first
over_word : (one : List ℕ → Option (List ℕ)) → Shortens one → ((c : ℕ) (cs : List ℕ) → is_word_part c ≡ true → one (c ∷ cs) ≡ Some cs)
    → (cs : List ℕ) → dotted_at one (skip is_word_part cs) ≡ dotted_at one cs
over_word one is takes [] = ap (λ (t : List ℕ). dotted_at one t) (skip_end is_word_part)
over_word one is takes (c ∷ cs) =
    elim (cases_Bool (is_word_part c)) [
      | inl word ↦
          let taken : one (skip_dots (c ∷ cs)) ≡ Some cs = ap one (skip_stop (λ d. d == 46) c cs (word_no_dot c word)) ∙ takes c cs word in
          ap (λ (t : List ℕ). dotted_at one t) (skip_step is_word_part c cs word) ∙ over_word one is takes cs ∙ sym (dotted_step one is (c ∷ cs) cs taken)
      | inr other ↦ ap (λ (t : List ℕ). dotted_at one t) (skip_stop is_word_part c cs other)
    ]

pub name_over_word : (cs : List ℕ) → dotted_at name_part_at (skip is_word_part cs) ≡ dotted_at name_part_at cs
name_over_word cs = over_word name_part_at (unit_shortens name_part_at name_unit) name_takes cs

pub local_over_word : (cs : List ℕ) → dotted_at local_part_at (skip is_word_part cs) ≡ dotted_at local_part_at cs
local_over_word cs = over_word local_part_at (unit_shortens local_part_at local_unit) local_takes cs

-- ---- readers that go over the word behind a unit

abbrev pub with_word : (List ℕ → Option (List ℕ)) → List ℕ → Option (List ℕ)
with_word one cs = option_map (skip is_word_part) (one cs)

word_shortens : (one : List ℕ → Option (List ℕ)) → Shortens one → Shortens (with_word one)
word_shortens one less cs rest e =
    let m = map_some (skip is_word_part) (one cs) rest e in
    let shorter = less cs m.0 m.1 in
    omega (arith, shorter, skip_no_longer is_word_part m.0, ap length m.2)

pub name_shortens : Shortens (with_word name_part_at)
name_shortens = word_shortens name_part_at (unit_shortens name_part_at name_unit)

pub local_shortens : Shortens (with_word local_part_at)
local_shortens = word_shortens local_part_at (unit_shortens local_part_at local_unit)

pub name_units : (cs : List ℕ) → dotted_at (with_word name_part_at) cs ≡ dotted_at name_part_at cs
name_units = further name_part_at (with_word name_part_at) (skip is_word_part) (unit_shortens name_part_at name_unit) name_shortens (λ cs. refl) name_over_word

pub local_units : (cs : List ℕ) → dotted_at (with_word local_part_at) cs ≡ dotted_at local_part_at cs
local_units = further local_part_at (with_word local_part_at) (skip is_word_part) (unit_shortens local_part_at local_unit) local_shortens (λ cs. refl) local_over_word
