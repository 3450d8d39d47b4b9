-- Characters at which a name ends, and those that are symbols alone.
use Rattle.std.proofs.Common.{◌≡◌, ℕ, true, eqb, ◌==◌, ◌||◌, List, ◌∷◌, Some, None, refl, sym, ap, subst, ◌∙◌, inl, inr}
use Rattle.std.proofs.lemmas.Bool.{eqb-true, or_cases}
use Rattle.rdf_terms.specs.Characters.{is_pn_chars_base, is_pn_chars, is_pn_chars_u}
use Rattle.rdf_terms.specs.Dotted.{skip_dots, dotted_at}
use Rattle.rdf_terms.specs.Reading.{expect}
use Rattle.rdf_terms.specs.Skips.{skip, some_of, one_of}
use Rattle.rdf_terms.proofs.CallerLemmas.{dotted_stop}
use Rattle.rdf_tokens.specs.Characters.{is_word_part}
use Rattle.rdf_tokens.specs.Inside.Shortcuts.{ends_local, ends_name, stands_alone}
use Rattle.rdf_tokens.specs.Inside.TokenReading.{name_part_at, local_part_at, plx_at, token_at, number_or_symbol_at, number_at, skip_sign, unsigned_at, digits_at, fraction_at, symbol_at}
use Rattle.rdf_tokens.specs.declared.token.Kind.TheVariants as kind
use Rattle.rdf_tokens.proofs.TokenRuns.{name_over_word, local_over_word}

one_of_four : (P : ℕ → Type 0) (c i j k l : ℕ) → ((c == i) || (c == j) || (c == k) || (c == l)) ≡ true → P i → P j → P k → P l → P c
one_of_four P c i j k l h at-i at-j at-k at-l =
    elim (or_cases (eqb c i || eqb c j || eqb c k) (eqb c l) h) [
      | inr is ↦ subst P (sym (eqb-true c l is)) at-l
      | inl three ↦ elim (or_cases (eqb c i || eqb c j) (eqb c k) three) [
        | inr is ↦ subst P (sym (eqb-true c k is)) at-k
        | inl two ↦ elim (or_cases (eqb c i) (eqb c j) two) [
          | inr is ↦ subst P (sym (eqb-true c j is)) at-j
          | inl is ↦ subst P (sym (eqb-true c i is)) at-i
        ]
      ]
    ]

-- ---- names

no_local_unit : (cs : List ℕ) → (local_part_at (skip_dots (32 ∷ cs)) ≡ None) × (local_part_at (skip_dots (10 ∷ cs)) ≡ None)
    × (local_part_at (skip_dots (44 ∷ cs)) ≡ None) × (local_part_at (skip_dots (59 ∷ cs)) ≡ None)
unfolding local_part_at plx_at one_of skip is_pn_chars is_pn_chars_u is_pn_chars_base
no_local_unit cs = (refl, refl, refl, refl)

no_name_unit : (cs : List ℕ) → (name_part_at (skip_dots (32 ∷ cs)) ≡ None) × (name_part_at (skip_dots (10 ∷ cs)) ≡ None)
    × (name_part_at (skip_dots (44 ∷ cs)) ≡ None) × (name_part_at (skip_dots (59 ∷ cs)) ≡ None) × (name_part_at (skip_dots (58 ∷ cs)) ≡ None)
unfolding one_of skip is_pn_chars is_pn_chars_u is_pn_chars_base
no_name_unit cs = (refl, refl, refl, refl, refl)

local_stop : (c : ℕ) (cs : List ℕ) → ends_local c ≡ true → local_part_at (skip_dots (c ∷ cs)) ≡ None
local_stop c cs h =
    let n = no_local_unit cs in
    one_of_four (λ (x : ℕ). local_part_at (skip_dots (x ∷ cs)) ≡ None) c 32 10 44 59 h n.0 n.1 n.2 n.3

name_stop : (c : ℕ) (cs : List ℕ) → ends_name c ≡ true → name_part_at (skip_dots (c ∷ cs)) ≡ None
name_stop c cs h =
    let n = no_name_unit cs in
    elim (or_cases (eqb c 58) (ends_local c) h) [
      | inl is ↦ subst (λ (x : ℕ). name_part_at (skip_dots (x ∷ cs)) ≡ None) (sym (eqb-true c 58 is)) n.4
      | inr more ↦ one_of_four (λ (x : ℕ). name_part_at (skip_dots (x ∷ cs)) ≡ None) c 32 10 44 59 more n.0 n.1 n.2 n.3
    ]

-- a word behind which one of them stands is all
pub local_is_word : (cursor word_end : List ℕ) (c : ℕ) (cs : List ℕ) → word_end ≡ skip is_word_part cursor → word_end ≡ c ∷ cs → ends_local c ≡ true
    → word_end ≡ dotted_at local_part_at cursor
local_is_word cursor word_end c cs e is h =
    let stop : local_part_at (skip_dots word_end) ≡ None = ap (λ (t : List ℕ). local_part_at (skip_dots t)) is ∙ local_stop c cs h in
    sym (dotted_stop local_part_at word_end stop) ∙ ap (λ (t : List ℕ). dotted_at local_part_at t) e ∙ local_over_word cursor

pub name_is_word : (cursor word_end : List ℕ) (c : ℕ) (cs : List ℕ) → word_end ≡ skip is_word_part cursor → word_end ≡ c ∷ cs → ends_name c ≡ true
    → word_end ≡ dotted_at name_part_at cursor
name_is_word cursor word_end c cs e is h =
    let stop : name_part_at (skip_dots word_end) ≡ None = ap (λ (t : List ℕ). name_part_at (skip_dots t)) is ∙ name_stop c cs h in
    sym (dotted_stop name_part_at word_end stop) ∙ ap (λ (t : List ℕ). dotted_at name_part_at t) e ∙ name_over_word cursor

-- ---- symbols

abbrev IsAlone : List ℕ → ℕ → Type 0
IsAlone cs c = token_at (c ∷ cs) ≡ Some (kind.Symbol, cs)

some_alone : (cs : List ℕ) → IsAlone cs 59 × IsAlone cs 44 × IsAlone cs 91 × IsAlone cs 93 × IsAlone cs 40 × IsAlone cs 41 × IsAlone cs 123 × IsAlone cs 125
unfolding token_at is_pn_chars_base number_or_symbol_at number_at skip_sign unsigned_at digits_at some_of fraction_at expect symbol_at
some_alone cs = (refl, refl, refl, refl, refl, refl, refl, refl)

pub alone_is_read : (c : ℕ) (cs : List ℕ) → stands_alone c ≡ true → token_at (c ∷ cs) ≡ Some (kind.Symbol, cs)
alone_is_read c cs h =
    let n = some_alone cs in
    elim (or_cases (eqb c 59 || eqb c 44 || eqb c 91 || eqb c 93 || eqb c 40 || eqb c 41 || eqb c 123) (eqb c 125) h) [
      | inr is ↦ subst (IsAlone cs) (sym (eqb-true c 125 is)) n.7
      | inl seven ↦ elim (or_cases (eqb c 59 || eqb c 44 || eqb c 91 || eqb c 93 || eqb c 40 || eqb c 41) (eqb c 123) seven) [
        | inr is ↦ subst (IsAlone cs) (sym (eqb-true c 123 is)) n.6
        | inl six ↦ elim (or_cases (eqb c 59 || eqb c 44 || eqb c 91 || eqb c 93 || eqb c 40) (eqb c 41) six) [
          | inr is ↦ subst (IsAlone cs) (sym (eqb-true c 41 is)) n.5
          | inl five ↦ elim (or_cases (eqb c 59 || eqb c 44 || eqb c 91 || eqb c 93) (eqb c 40) five) [
            | inr is ↦ subst (IsAlone cs) (sym (eqb-true c 40 is)) n.4
            | inl four ↦ one_of_four (IsAlone cs) c 59 44 91 93 four n.0 n.1 n.2 n.3
          ]
        ]
      ]
    ]
