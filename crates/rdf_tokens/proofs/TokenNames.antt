-- Words and variables.
use Rattle.std.proofs.Common.{◌≡◌, ◌⊎◌, ◌<◌, ◌≤◌, ℕ, true, false, eqb, ◌||◌, List, [], ◌∷◌, ◌++◌, length, Some, None, refl, sym, ap, subst, ◌∙◌, inl, inr, append_assoc, length-append, arith}
use Rattle.std.specs.Char.{is_ascii_alphabetic, is_ascii_alphanumeric}
use Rattle.std.specs.Int.{is_in_range}
use Rattle.rdf_tokens.specs.declared.token.Kind.TheVariants as kind
use Rattle.rdf_terms.specs.Characters.{is_pn_chars_base, is_pn_chars, is_pn_chars_u}
use Rattle.rdf_tokens.specs.Characters.{is_word_part, is_name_start, is_variable_part}
use Rattle.std.proofs.lemmas.Bool.{cases_Bool, or_cases, or_left, or_right, true≢false}
use Rattle.rdf_tokens.specs.Forms.{IsWord, IsNamePart, IsPrefix, IsLocal, IsPname}
use Rattle.rdf_terms.specs.Dotted.{IsDotted, skip_dots, dotted_at}
use Rattle.rdf_terms.specs.Reading.{expect}
use Rattle.rdf_tokens.specs.Inside.TokenReading.{as_kind, word_at, variable_at, name_part_at, local_part_at, local_first_at, local_at, prefix_at, pname_at, label_at, blank_at}
use Rattle.rdf_terms.specs.Skips.{skip, one_of}
use Rattle.rdf_terms.proofs.CallerLemmas.{dotted_front, dotted_over, dotted_stop, cases_Option, bind_some, some_is, none_is, guard_some, map_some, expect_sound, expect_complete, AllPass, some_sound, some_complete}
use Rattle.rdf_tokens.proofs.TokenUnits.{name_unit, local_unit, first_sound, first_complete, beats_dotted}
use Rattle.rdf_tokens.proofs.TokenClaims.{Beats, Sound, beats_skip}

pub word_sound : (cs rest : List ℕ) → word_at cs ≡ Some rest → Sound kind.Word cs rest
unfolding word_at
word_sound cs rest e =
    let s = some_sound is_ascii_alphabetic is_word_part cs rest e in
    (s.0 ∷ s.1, s.2, (s.0, s.1, refl, s.3, s.4))

pub word_claims : (slice rest : List ℕ) → IsWord slice → Beats kind.Word rest (as_kind kind.Word (word_at (slice ++ rest)))
unfolding word_at
word_claims slice rest h =
    rw (h.2, some_complete is_ascii_alphabetic is_word_part h.0 h.1 rest h.3 h.4) (beats_skip kind.Word is_word_part rest)

pub variable_sound : (mark : ℕ) (cs rest : List ℕ) → (mark ≡ 63) ⊎ (mark ≡ 36) → variable_at cs ≡ Some rest → Sound kind.Var (mark ∷ cs) rest
unfolding variable_at
variable_sound mark cs rest m e =
    let s = some_sound is_name_start is_variable_part cs rest e in
    (mark ∷ s.0 ∷ s.1, ap (λ (t : List ℕ). mark ∷ t) s.2, (mark, s.0, s.1, refl, m, s.3, s.4))

pub variable_claims : (c : ℕ) (name rest : List ℕ) → is_name_start c ≡ true → AllPass is_variable_part name → Beats kind.Var rest (as_kind kind.Var (variable_at (c ∷ (name ++ rest))))
unfolding variable_at
variable_claims c name rest h all =
    rw (some_complete is_name_start is_variable_part c name rest h all) (beats_skip kind.Var is_variable_part rest)

-- ---- blank labels

label_sound : (cs rest : List ℕ) → label_at cs ≡ Some rest → (c : ℕ) × (name : List ℕ) × (units : List (List ℕ)) × (cs ≡ c ∷ (name ++ rest)) × (is_name_start c ≡ true) × IsDotted IsNamePart name units
unfolding label_at
label_sound [] rest e = none_is rest e
label_sound (c ∷ cs) rest e =
    let g = guard_some (is_name_start c) (Some (dotted_at name_part_at cs)) rest e in
    let f = dotted_front name_part_at name_unit cs in
    (c, f.0, f.1, ap (λ (t : List ℕ). c ∷ t) (f.2 ∙ ap (λ (t : List ℕ). f.0 ++ t) (some_is (dotted_at name_part_at cs) rest g.1)), g.0, f.3)

pub blank_sound : (mark : ℕ) (cs rest : List ℕ) → mark ≡ 95 → blank_at cs ≡ Some rest → Sound kind.BlankLabel (mark ∷ cs) rest
unfolding blank_at
blank_sound mark cs rest m e =
    let a = bind_some (expect 58 cs) label_at rest e in
    let s = label_sound a.0 rest a.2 in
    (95 ∷ 58 ∷ s.0 ∷ s.1, ap (λ (x : ℕ). x ∷ cs) m ∙ ap (λ (t : List ℕ). 95 ∷ t) (expect_sound 58 cs a.0 a.1 ∙ ap (λ (t : List ℕ). 58 ∷ t) s.3), (s.0, s.1, s.2, refl, s.4, s.5))

pub blank_claims : (c : ℕ) (name rest : List ℕ) (units : List (List ℕ)) → is_name_start c ≡ true → IsDotted IsNamePart name units
    → Beats kind.BlankLabel rest (as_kind kind.BlankLabel (blank_at (58 ∷ c ∷ (name ++ rest))))
unfolding blank_at label_at
blank_claims c name rest units h d =
    rw (expect_complete 58 (c ∷ (name ++ rest)), h, dotted_over name_part_at name_unit units name rest d) (beats_dotted kind.BlankLabel name_part_at name_unit rest)

-- ---- prefixed names

prefix_front : (cs : List ℕ) → (p : List ℕ) × (cs ≡ p ++ prefix_at cs) × IsPrefix p
unfolding prefix_at
prefix_front [] = ([], refl, tt)
prefix_front (c ∷ cs) =
    elim (cases_Bool (is_pn_chars_base c)) [
      | inl is ↦ let f = dotted_front name_part_at name_unit cs in rw is (c ∷ f.0, ap (λ (t : List ℕ). c ∷ t) f.2, (is, (f.1, f.3)))
      | inr not ↦ rw not ([], refl, tt)
    ]

local_front : (cs : List ℕ) → (l : List ℕ) × (cs ≡ l ++ local_at cs) × IsLocal l
unfolding local_at
local_front cs =
    elim (cases_Option (local_first_at cs)) [
      | inl none ↦ rw none ([], refl, inl refl)
      | inr some ↦
          let s = first_sound cs some.0 some.1 in
          let f = dotted_front local_part_at local_unit some.0 in
          rw some.1 (s.0 ++ f.0, s.1 ∙ ap (λ (t : List ℕ). s.0 ++ t) f.2 ∙ sym (append_assoc s.0 f.0 (dotted_at local_part_at some.0)), inr (s.0, f.0, f.1, refl, s.2, f.3))
    ]

pub pname_sound : (cs rest : List ℕ) → pname_at cs ≡ Some rest → Sound kind.Pname cs rest
unfolding pname_at
pname_sound cs rest e =
    let m = map_some local_at (expect 58 (prefix_at cs)) rest e in
    let p = prefix_front cs in
    let l = local_front m.0 in (
      p.0 ++ 58 ∷ l.0,
      p.1 ∙ ap (λ (t : List ℕ). p.0 ++ t) (expect_sound 58 (prefix_at cs) m.0 m.1 ∙ ap (λ (t : List ℕ). 58 ∷ t) (l.1 ∙ ap (λ (t : List ℕ). l.0 ++ t) m.2))
          ∙ sym (append_assoc p.0 (58 ∷ l.0) rest),
      (p.0, l.0, refl, p.2, l.2),
    )

colon_no_part : (cs : List ℕ) → name_part_at (skip_dots (58 ∷ cs)) ≡ None
unfolding one_of skip is_pn_chars is_name_start is_pn_chars_u is_pn_chars_base
colon_no_part cs = refl

pub colon_stops : (cs : List ℕ) → dotted_at name_part_at (58 ∷ cs) ≡ 58 ∷ cs
colon_stops cs = dotted_stop name_part_at (58 ∷ cs) (colon_no_part cs)

letter_over : (c : ℕ) (name cs : List ℕ) → is_pn_chars_base c ≡ true → (units : List (List ℕ)) → IsDotted IsNamePart name units → prefix_at (c ∷ (name ++ 58 ∷ cs)) ≡ 58 ∷ cs
unfolding prefix_at
letter_over c name cs h units d = rw h (dotted_over name_part_at name_unit units name (58 ∷ cs) d ∙ colon_stops cs)

prefix_over : (p cs : List ℕ) → IsPrefix p → prefix_at (p ++ 58 ∷ cs) ≡ 58 ∷ cs
unfolding prefix_at is_pn_chars_base
prefix_over [] cs h = refl
prefix_over (c ∷ name) cs h = letter_over c name cs h.0 h.1.0 h.1.1

local_claims : (l rest : List ℕ) → IsLocal l → Beats kind.Pname rest (Some (kind.Pname, local_at (l ++ rest)))
unfolding local_at
local_claims l rest (inl e) =
    let f = local_front rest in
    ap_local l rest e (by_front f.0 f.1)
  where
    by_front : (xs : List ℕ) → rest ≡ xs ++ local_at rest → Beats kind.Pname rest (Some (kind.Pname, local_at rest))
    by_front [] e = inl (ap (λ (t : List ℕ). (kind.Pname, t)) (sym e))
    by_front (x ∷ xs) e = inr (omega (arith, ap length e, length-append xs (local_at rest)))

    ap_local : (l rest : List ℕ) → l ≡ [] → Beats kind.Pname rest (Some (kind.Pname, local_at rest)) → Beats kind.Pname rest (Some (kind.Pname, local_at (l ++ rest)))
    ap_local l rest e b = subst (λ (t : List ℕ). Beats kind.Pname rest (Some (kind.Pname, local_at (t ++ rest)))) (sym e) b
local_claims l rest (inr h) =
    let whole : l ++ rest ≡ h.0 ++ (h.1 ++ rest) = ap (λ (t : List ℕ). t ++ rest) h.3 ∙ append_assoc h.0 h.1 rest in
    rw (whole, first_complete h.0 (h.1 ++ rest) h.4, dotted_over local_part_at local_unit h.2 h.1 rest h.5) (beats_dotted kind.Pname local_part_at local_unit rest)

pub pname_claims : (slice rest : List ℕ) → IsPname slice → Beats kind.Pname rest (as_kind kind.Pname (pname_at (slice ++ rest)))
unfolding pname_at
pname_claims slice rest h =
    let whole : slice ++ rest ≡ h.0 ++ 58 ∷ (h.1 ++ rest) = ap (λ (t : List ℕ). t ++ rest) h.2 ∙ append_assoc h.0 (58 ∷ h.1) rest in
    rw (whole, prefix_over h.0 (h.1 ++ rest) h.3, expect_complete 58 (h.1 ++ rest)) (local_claims h.1 rest h.4)

-- a word holds no colon, so it is no longer than a prefix there
word_within : (w rest p more : List ℕ) → AllPass is_word_part w → w ++ rest ≡ p ++ 58 ∷ more → length w ≤ length p
word_within [] rest p more h e = omega arith
word_within (c ∷ w) rest [] more h e = absurd (true≢false (sym h.0 ∙ ap is_word_part (head_is c 58 (w ++ rest) more e)))
  where
    head_is : (a b : ℕ) (xs ys : List ℕ) → (a ∷ xs) ≡ (b ∷ ys) → a ≡ b
    head_is a b xs ys e = cc
word_within (c ∷ w) rest (d ∷ p) more h e = omega (arith, word_within w rest p more h.1 (tail_is c d (w ++ rest) (p ++ 58 ∷ more) e))
  where
    tail_is : (a b : ℕ) (xs ys : List ℕ) → (a ∷ xs) ≡ (b ∷ ys) → xs ≡ ys
    tail_is a b xs ys e = cc

letter_no_colon : is_word_part 58 ≡ false
letter_no_colon = refl

letter_is_part : (c : ℕ) → is_ascii_alphabetic c ≡ true → is_word_part c ≡ true
letter_is_part c h =
    elim (or_cases (is_in_range 65 90 c) (is_in_range 97 122 c) h) [
      | inl upper ↦ or_left (is_ascii_alphanumeric c) (eqb c 95)
          (or_left (is_in_range 48 57 c || is_in_range 65 90 c) (is_in_range 97 122 c) (or_right (is_in_range 48 57 c) (is_in_range 65 90 c) upper))
      | inr lower ↦ or_left (is_ascii_alphanumeric c) (eqb c 95) (or_right (is_in_range 48 57 c || is_in_range 65 90 c) (is_in_range 97 122 c) lower)
    ]

pub pname_longer : (slice rest r : List ℕ) → IsWord slice → pname_at (slice ++ rest) ≡ Some r → length r < length rest
pname_longer slice rest r h e =
    let s = pname_sound (slice ++ rest) r e in
    let f = s.2 in
    let whole : slice ++ rest ≡ f.0 ++ 58 ∷ (f.1 ++ r) = s.1 ∙ ap (λ (t : List ℕ). t ++ r) f.2 ∙ append_assoc f.0 (58 ∷ f.1) r in
    let within = word_within slice rest f.0 (f.1 ++ r) (subst (AllPass is_word_part) (sym h.2) (letter_is_part h.0 h.3, h.4)) whole in
    omega (arith, within, ap length whole, length-append slice rest, length-append f.0 (58 ∷ (f.1 ++ r)), length-append f.1 r)
