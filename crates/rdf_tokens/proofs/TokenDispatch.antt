-- The first character tells which forms there can be.
use Rattle.std.proofs.Common.{◌≡◌, ◌≢◌, ◌⊎◌, ◌<◌, ◌≤◌, ℕ, Bool, true, false, eqb, ◌==◌, ◌||◌, List, [], ◌∷◌, ◌++◌, length, Option, Some, None, refl, sym, ap, subst, ◌∙◌, inl, inr, append_assoc, arith}
use Rattle.std.specs.Char.{is_ascii_digit, is_ascii_alphabetic}
use Rattle.std.proofs.lemmas.Bool.{cases_Bool, eqb-true, ne_eqb, or_cases, or_left, and_parts, leb-true, lt-leb}
use Rattle.std.proofs.Math.Dec.{leb}
use Rattle.rdf_tokens.specs.declared.token.Kind.{Kind}
use Rattle.rdf_tokens.specs.declared.token.Kind.TheVariants as kind
use Rattle.rdf_terms.specs.Characters.{is_pn_chars_base}
use Rattle.std.specs.Int.{is_in_range}
use Rattle.rdf_terms.specs.Quoted.{IsIriRef}
use Rattle.rdf_tokens.specs.Forms.{IsAtWord, IsPname, IsPrefix, IsBlankLabel, IsString, IsText, IsWord, IsVariable, IsOneOf, symbols, HasForm, Signed}
use Rattle.rdf_terms.specs.Reading.{expect}
use Rattle.rdf_terms.specs.Skips.{some_of}
use Rattle.rdf_terms.specs.Tags.{tag_end_at}
use Rattle.rdf_tokens.specs.Inside.TokenReading.{iri_end_at, as_kind, or_else, symbol_at, number_at, number_or_symbol_at, variable_at, word_at, pname_at, blank_at, long_at, text_at, token_at, skip_sign, unsigned_at, digits_at, fraction_at}
use Rattle.rdf_terms.proofs.CallerLemmas.{cases_Option, some_is, none_is}
use Rattle.rdf_tokens.proofs.TokenClaims.{Beats, Sound}
use Rattle.rdf_tokens.proofs.TokenNumbers.{differs, Unsigned, StartsNumber, number_sound, number_claims, number_starts}
use Rattle.rdf_tokens.proofs.TokenSymbols.{symbol_sound, symbol_claims}
use Rattle.rdf_tokens.proofs.TokenEnds.{iri_end_sound, iri_end_read, iri_less, iri_less_two, quoted_end_sound}
use Rattle.rdf_tokens.proofs.TokenLong.{long_sound, long_claims, short_claims}
use Rattle.rdf_tokens.proofs.TokenTags.{at_word_sound, at_word_claims}
use Rattle.rdf_tokens.proofs.TokenNames.{pname_sound, pname_claims, pname_longer, blank_sound, blank_claims, word_sound, word_claims, variable_sound, variable_claims}

-- ---- what is read has its form

abbrev SoundAt : List ℕ → Kind × List ℕ → Type 0
SoundAt cs t = Sound t.0 cs t.1

as_kind_sound : (k : Kind) (cs : List ℕ) (read : Option (List ℕ)) (t : Kind × List ℕ)
    → ((rest : List ℕ) → read ≡ Some rest → Sound k cs rest) → as_kind k read ≡ Some t → SoundAt cs t
as_kind_sound k cs None t h e = none_is t e
as_kind_sound k cs (Some rest) t h e = subst (SoundAt cs) (some_is (k, rest) t e) (h rest refl)

or_else_sound : (cs : List ℕ) (a b : Option (Kind × List ℕ)) (t : Kind × List ℕ)
    → (a ≡ Some t → SoundAt cs t) → (b ≡ Some t → SoundAt cs t) → or_else a b ≡ Some t → SoundAt cs t
or_else_sound cs None b t h k e = k e
or_else_sound cs (Some x) b t h k e = h e

number_or_symbol_sound : (cs : List ℕ) (t : Kind × List ℕ) → number_or_symbol_at cs ≡ Some t → SoundAt cs t
unfolding number_or_symbol_at
number_or_symbol_sound cs t e =
    or_else_sound cs (number_at cs) (as_kind kind.Symbol (symbol_at cs)) t
    (number_sound cs t) (as_kind_sound kind.Symbol cs (symbol_at cs) t (symbol_sound cs)) e

is_mark : (c : ℕ) → (eqb c 63 || eqb c 36) ≡ true → (c ≡ 63) ⊎ (c ≡ 36)
is_mark c h = elim (or_cases (eqb c 63) (eqb c 36) h) [ inl a ↦ inl (eqb-true c 63 a) | inr b ↦ inr (eqb-true c 36 b) ]

is_quote : (c : ℕ) → (eqb c 34 || eqb c 39) ≡ true → (c ≡ 34) ⊎ (c ≡ 39)
is_quote c h = elim (or_cases (eqb c 34) (eqb c 39) h) [ inl a ↦ inl (eqb-true c 34 a) | inr b ↦ inr (eqb-true c 39 b) ]

string_sound : (q : ℕ) (cs rest : List ℕ) → 92 ≢ q → text_at q cs ≡ Some rest → (slice vs : List ℕ) × (cs ≡ slice ++ rest) × IsString q slice vs
unfolding text_at
string_sound q cs rest nq e =
    elim (cases_Option (long_at q cs)) [
      | inr some ↦ let s = long_sound q cs rest (some.1 ∙ rw some.1 at e) in (s.0, s.1, s.2, inr s.3)
      | inl none ↦ let s = quoted_end_sound q cs rest nq (rw none at e) in (s.0, s.1, s.2, inl s.3)
    ]

text_sound : (c : ℕ) (cs rest : List ℕ) → (c ≡ 34) ⊎ (c ≡ 39) → text_at c cs ≡ Some rest → Sound kind.Text cs rest
text_sound c cs rest (inl e) h =
    let s = string_sound c cs rest (λ n. omega (arith, n, e)) h in
    (s.0, s.2, (s.1, inl (subst (λ (q : ℕ). IsString q s.0 s.1) e s.3)))
text_sound c cs rest (inr e) h =
    let s = string_sound c cs rest (λ n. omega (arith, n, e)) h in
    (s.0, s.2, (s.1, inr (subst (λ (q : ℕ). IsString q s.0 s.1) e s.3)))

abbrev begins_name : ℕ → Bool
begins_name c = is_pn_chars_base c || (c == 58)

pub token_sound : (cs : List ℕ) (t : Kind × List ℕ) → token_at cs ≡ Some t → SoundAt cs t
unfolding token_at
token_sound [] t e = none_is t e
token_sound (c ∷ cs) t e =
    elim (cases_Bool (eqb c 60)) [
      | inl angle ↦ or_else_sound (c ∷ cs) (as_kind kind.Iri (iri_end_at (c ∷ cs))) (number_or_symbol_at (c ∷ cs)) t
          (as_kind_sound kind.Iri (c ∷ cs) (iri_end_at (c ∷ cs)) t (iri_end_sound (c ∷ cs))) (number_or_symbol_sound (c ∷ cs) t) (rw angle at e)
      | inr not_angle ↦
          elim (cases_Bool (eqb c 34 || eqb c 39)) [
            | inl quote ↦ as_kind_sound kind.Text (c ∷ cs) (text_at c (c ∷ cs)) t (λ rest. text_sound c (c ∷ cs) rest (is_quote c quote)) (rw (not_angle, quote) at e)
            | inr not_quote ↦
                elim (cases_Bool (eqb c 63 || eqb c 36)) [
                  | inl mark ↦ as_kind_sound kind.Var (c ∷ cs) (variable_at cs) t (λ rest. variable_sound c cs rest (is_mark c mark)) (rw (not_angle, not_quote, mark) at e)
                  | inr not_mark ↦
                      elim (cases_Bool (eqb c 64)) [
                        | inl sign ↦ as_kind_sound kind.AtWord (c ∷ cs) (tag_end_at cs) t (λ rest. at_word_sound c cs rest (eqb-true c 64 sign)) (rw (not_angle, not_quote, not_mark, sign) at e)
                        | inr not_sign ↦
                            elim (cases_Bool (eqb c 95)) [
                              | inl bar ↦ as_kind_sound kind.BlankLabel (c ∷ cs) (blank_at cs) t (λ rest. blank_sound c cs rest (eqb-true c 95 bar)) (rw (not_angle, not_quote, not_mark, not_sign, bar) at e)
                              | inr not_bar ↦
                                  elim (cases_Bool (begins_name c)) [
                                    | inl letter ↦ or_else_sound (c ∷ cs) (as_kind kind.Pname (pname_at (c ∷ cs))) (as_kind kind.Word (word_at (c ∷ cs))) t
                                        (as_kind_sound kind.Pname (c ∷ cs) (pname_at (c ∷ cs)) t (pname_sound (c ∷ cs))) (as_kind_sound kind.Word (c ∷ cs) (word_at (c ∷ cs)) t (word_sound (c ∷ cs)))
                                        (rw (not_angle, not_quote, not_mark, not_sign, not_bar, letter) at e)
                                    | inr not_letter ↦ number_or_symbol_sound (c ∷ cs) t (rw (not_angle, not_quote, not_mark, not_sign, not_bar, not_letter) at e)
                                  ]
                            ]
                      ]
                ]
          ]
    ]

-- ---- each slice of a form is read, or more

at_mark : (mark : ℕ) (cs : List ℕ) → (mark ≡ 63) ⊎ (mark ≡ 36) → token_at (mark ∷ cs) ≡ as_kind kind.Var (variable_at cs)
unfolding token_at
at_mark mark cs (inl e) = rw e refl
at_mark mark cs (inr e) = rw e refl

no_name : (begins_name 60 ≡ false) × (begins_name 34 ≡ false) × (begins_name 39 ≡ false) × (begins_name 63 ≡ false) × (begins_name 36 ≡ false) × (begins_name 95 ≡ false) × (begins_name 64 ≡ false)
    × (begins_name 43 ≡ false) × (begins_name 45 ≡ false) × (begins_name 46 ≡ false)
unfolding is_pn_chars_base
no_name = (refl, refl, refl, refl, refl, refl, refl, refl, refl, refl)

at_name : (c : ℕ) (cs : List ℕ) → begins_name c ≡ true → token_at (c ∷ cs) ≡ or_else (as_kind kind.Pname (pname_at (c ∷ cs))) (as_kind kind.Word (word_at (c ∷ cs)))
unfolding token_at
at_name c cs h =
    rw (
      differs begins_name c 60 h no_name.0,
      differs begins_name c 34 h no_name.1,
      differs begins_name c 39 h no_name.2,
      differs begins_name c 63 h no_name.3,
      differs begins_name c 36 h no_name.4,
      differs begins_name c 64 h no_name.6,
      differs begins_name c 95 h no_name.5,
      h,
    ) refl

-- a digit begins no name
below : (lo hi c : ℕ) → c < lo → is_in_range lo hi c ≡ false
below lo hi c lt = rw (lt-leb lo c lt) refl

digit_no_name : (c : ℕ) → is_ascii_digit c ≡ true → begins_name c ≡ false
unfolding is_pn_chars_base
digit_no_name c h =
    let parts = and_parts (leb 48 c) (leb c 57) h in
    let high : c ≤ 57 = leb-true c 57 parts.1 in
    let low = λ (lo hi : ℕ) (lt : 57 < lo). below lo hi c (omega (arith, high, lt)) in
    rw (
      low 0x41 0x5A (omega arith),
      low 0x61 0x7A (omega arith),
      low 0xC0 0xD6 (omega arith),
      low 0xD8 0xF6 (omega arith),
      low 0xF8 0x2FF (omega arith),
      low 0x370 0x37D (omega arith),
      low 0x37F 0x1FFF (omega arith),
      low 0x200C 0x200D (omega arith),
      low 0x2070 0x218F (omega arith),
      low 0x2C00 0x2FEF (omega arith),
      low 0x3001 0xD7FF (omega arith),
      low 0xF900 0xFDCF (omega arith),
      low 0xFDF0 0xFFFD (omega arith),
      low 0x1_0000 0xE_FFFF (omega arith),
      ne_eqb c 58 (λ e. omega (arith, e, high)),
    ) refl

-- an ASCII letter begins a name
letter_begins : (c : ℕ) → is_ascii_alphabetic c ≡ true → begins_name c ≡ true
unfolding is_pn_chars_base
letter_begins c h =
    elim (cases_Bool (is_in_range 65 90 c)) [
      | inl upper ↦ rw upper refl
      | inr other ↦ let lower : is_in_range 97 122 c ≡ true = rw other at h in rw (other, lower) refl
    ]

at_number : (c : ℕ) (cs : List ℕ) → StartsNumber c → token_at (c ∷ cs) ≡ number_or_symbol_at (c ∷ cs)
unfolding token_at
at_number c cs (inl s) =
    elim (or_cases (eqb c 43) (eqb c 45) s) [
      | inl e ↦ rw (eqb-true c 43 e, no_name.7) refl
      | inr e ↦ rw (eqb-true c 45 e, no_name.8) refl
    ]
at_number c cs (inr (inl d)) =
    rw (
      differs is_ascii_digit c 60 d refl,
      differs is_ascii_digit c 34 d refl,
      differs is_ascii_digit c 39 d refl,
      differs is_ascii_digit c 63 d refl,
      differs is_ascii_digit c 36 d refl,
      differs is_ascii_digit c 64 d refl,
      differs is_ascii_digit c 95 d refl,
      digit_no_name c d,
    ) refl
at_number c cs (inr (inr e)) = rw (e, no_name.9) refl

variable_claims_here : (slice rest : List ℕ) → IsVariable slice → Beats kind.Var rest (token_at (slice ++ rest))
variable_claims_here slice rest h =
    rw (h.3, at_mark h.0 (h.1 ∷ (h.2 ++ rest)) h.4) (variable_claims h.1 h.2 rest h.5 h.6)

beats_first : (k : Kind) (rest : List ℕ) (a b : Option (Kind × List ℕ)) → Beats k rest a → Beats k rest (or_else a b)
beats_first k rest None b h = absurd h
beats_first k rest (Some t) b h = h

beats_second : (k : Kind) (rest : List ℕ) (a b : Option (Kind × List ℕ)) → ((t : Kind × List ℕ) → a ≡ Some t → length t.1 < length rest) → Beats k rest b → Beats k rest (or_else a b)
beats_second k rest None b h claim = claim
beats_second k rest (Some t) b h claim = inr (h t refl)

pname_or_more : (slice rest : List ℕ) → IsWord slice → (t : Kind × List ℕ) → as_kind kind.Pname (pname_at (slice ++ rest)) ≡ Some t → length t.1 < length rest
pname_or_more slice rest h t e = by_read (pname_at (slice ++ rest)) refl e
  where
    by_read : (read : Option (List ℕ)) → pname_at (slice ++ rest) ≡ read → as_kind kind.Pname read ≡ Some t → length t.1 < length rest
    by_read None r e = none_is t e
    by_read (Some x) r e = subst (λ (y : Kind × List ℕ). length y.1 < length rest) (some_is (kind.Pname, x) t e) (pname_longer slice rest x h r)

word_claims_here : (slice rest : List ℕ) → IsWord slice → Beats kind.Word rest (token_at (slice ++ rest))
word_claims_here slice rest h =
    let e : token_at (slice ++ rest) ≡ or_else (as_kind kind.Pname (pname_at (slice ++ rest))) (as_kind kind.Word (word_at (slice ++ rest))) =
    ap (λ (t : List ℕ). token_at (t ++ rest)) h.2 ∙ at_name h.0 (h.1 ++ rest) (letter_begins h.0 h.3)
    ∙ ap (λ (t : List ℕ). or_else (as_kind kind.Pname (pname_at (t ++ rest))) (as_kind kind.Word (word_at (t ++ rest)))) (sym h.2) in
    rw e (beats_second kind.Word rest (as_kind kind.Pname (pname_at (slice ++ rest))) (as_kind kind.Word (word_at (slice ++ rest))) (pname_or_more slice rest h) (word_claims slice rest h))

prefix_begins : (p more : List ℕ) → IsPrefix p → (c : ℕ) × (cs : List ℕ) × (p ++ 58 ∷ more ≡ c ∷ cs) × (begins_name c ≡ true)
unfolding is_pn_chars_base
prefix_begins [] more h = (58, more, refl, refl)
prefix_begins (c ∷ name) more h = (c, name ++ 58 ∷ more, refl, or_left (is_pn_chars_base c) (eqb c 58) h.0)

pname_claims_here : (slice rest : List ℕ) → IsPname slice → Beats kind.Pname rest (token_at (slice ++ rest))
pname_claims_here slice rest h =
    let b = prefix_begins h.0 (h.1 ++ rest) h.3 in
    let whole : slice ++ rest ≡ b.0 ∷ b.1 = ap (λ (t : List ℕ). t ++ rest) h.2 ∙ append_assoc h.0 (58 ∷ h.1) rest ∙ b.2 in
    let e : token_at (slice ++ rest) ≡ or_else (as_kind kind.Pname (pname_at (slice ++ rest))) (as_kind kind.Word (word_at (slice ++ rest))) =
    ap token_at whole ∙ at_name b.0 b.1 b.3
    ∙ ap (λ (t : List ℕ). or_else (as_kind kind.Pname (pname_at t)) (as_kind kind.Word (word_at t))) (sym whole) in
    rw e (beats_first kind.Pname rest (as_kind kind.Pname (pname_at (slice ++ rest))) (as_kind kind.Word (word_at (slice ++ rest))) (pname_claims slice rest h))

at_sign : (cs : List ℕ) → token_at (64 ∷ cs) ≡ as_kind kind.AtWord (tag_end_at cs)
unfolding token_at
at_sign cs = refl

at_word_claims_here : (slice rest : List ℕ) → IsAtWord slice → Beats kind.AtWord rest (token_at (slice ++ rest))
at_word_claims_here slice rest h =
    let whole : slice ++ rest ≡ 64 ∷ (h.0 ++ rest) = ap (λ (t : List ℕ). t ++ rest) h.1 in
    rw (whole, at_sign (h.0 ++ rest)) (at_word_claims h.0 rest h.2)

at_bar : (cs : List ℕ) → token_at (95 ∷ cs) ≡ as_kind kind.BlankLabel (blank_at cs)
unfolding token_at
at_bar cs = refl

blank_claims_here : (slice rest : List ℕ) → IsBlankLabel slice → Beats kind.BlankLabel rest (token_at (slice ++ rest))
blank_claims_here slice rest h = rw (h.3, at_bar (58 ∷ h.0 ∷ (h.1 ++ rest))) (blank_claims h.0 h.1 rest h.2 h.4 h.5)

number_claims_here : (k : Kind) (slice rest : List ℕ) → Signed (Unsigned k) slice → Beats k rest (token_at (slice ++ rest))
unfolding number_or_symbol_at
number_claims_here k slice rest h =
    let s = number_starts k slice rest h in
    let e : token_at (slice ++ rest) ≡ number_or_symbol_at (slice ++ rest) = ap token_at s.2 ∙ at_number s.0 s.1 s.3 ∙ ap number_or_symbol_at (sym s.2) in
    rw e (beats_first k rest (number_at (slice ++ rest)) (as_kind kind.Symbol (symbol_at (slice ++ rest))) (number_claims k slice rest h))

-- an IRI takes more than the symbols that begin as it does
after_iri : (cs rest : List ℕ) (b : Option (Kind × List ℕ)) → ((r : List ℕ) → iri_end_at cs ≡ Some r → length r < length rest)
    → Beats kind.Symbol rest b → Beats kind.Symbol rest (or_else (as_kind kind.Iri (iri_end_at cs)) b)
after_iri cs rest b h claim =
    elim (cases_Option (iri_end_at cs)) [
      | inl none ↦ rw none claim
      | inr some ↦ rw some.1 (inr (h some.0 some.1))
    ]

angle_less : (rest : List ℕ) → Beats kind.Symbol rest (number_or_symbol_at (60 ∷ rest)) → Beats kind.Symbol rest (or_else (as_kind kind.Iri (iri_end_at (60 ∷ rest))) (number_or_symbol_at (60 ∷ rest)))
angle_less rest b = after_iri (60 ∷ rest) rest (number_or_symbol_at (60 ∷ rest)) (iri_less rest) b

angle_less_two : (rest : List ℕ) → Beats kind.Symbol rest (number_or_symbol_at (60 ∷ 61 ∷ rest)) → Beats kind.Symbol rest (or_else (as_kind kind.Iri (iri_end_at (60 ∷ 61 ∷ rest))) (number_or_symbol_at (60 ∷ 61 ∷ rest)))
angle_less_two rest b = after_iri (60 ∷ 61 ∷ rest) rest (number_or_symbol_at (60 ∷ 61 ∷ rest)) (λ r. iri_less_two 61 rest r (λ e. omega (arith, e))) b

-- what holds of symbols alone holds with the branches of other forms
abbrev Lifts : List (List ℕ) → Type 0
Lifts [] = Unit {0}
Lifts (s ∷ others) = ((rest : List ℕ) → Beats kind.Symbol rest (number_or_symbol_at (s ++ rest)) → Beats kind.Symbol rest (token_at (s ++ rest))) × Lifts others

all_lift : Lifts symbols
unfolding token_at is_pn_chars_base
all_lift = (λ _ b. b, (λ _ b. b, (λ _ b. b, (λ _ b. b, (λ _ b. b, (λ _ b. b, (λ _ b. b, (λ _ b. b, (λ _ b. b, (λ _ b. b, (λ _ b. b, (λ _ b. b, (λ rest b. angle_less rest b, (λ _ b. b, (λ rest b. angle_less_two rest b, (λ _ b. b, (λ _ b. b, (λ _ b. b, (λ _ b. b, (λ _ b. b, (λ _ b. b, (λ _ b. b, (λ _ b. b, tt)))))))))))))))))))))))

at_symbol : (ss : List (List ℕ)) → Lifts ss → (slice rest : List ℕ) → IsOneOf ss slice → Beats kind.Symbol rest (number_or_symbol_at (slice ++ rest)) → Beats kind.Symbol rest (token_at (slice ++ rest))
at_symbol [] all slice rest h b = absurd h
at_symbol (s ∷ ss) all slice rest (inl e) b = rw e (all.0 rest (rw e at b))
at_symbol (s ∷ ss) all slice rest (inr h) b = at_symbol ss all.1 slice rest h b

symbol_claims_here : (slice rest : List ℕ) → IsOneOf symbols slice → Beats kind.Symbol rest (token_at (slice ++ rest))
symbol_claims_here slice rest h = at_symbol symbols all_lift slice rest h (symbol_claims slice rest h)

at_angle : (cs : List ℕ) → token_at (60 ∷ cs) ≡ or_else (as_kind kind.Iri (iri_end_at (60 ∷ cs))) (number_or_symbol_at (60 ∷ cs))
unfolding token_at
at_angle cs = refl

iri_claims_here : (slice cs rest : List ℕ) → IsIriRef slice cs → Beats kind.Iri rest (token_at (slice ++ rest))
iri_claims_here slice cs rest h =
    let e : token_at (slice ++ rest) ≡ or_else (as_kind kind.Iri (iri_end_at (slice ++ rest))) (number_or_symbol_at (slice ++ rest)) =
    ap (λ (t : List ℕ). token_at (t ++ rest)) h.2 ∙ at_angle ((h.0 ++ 62 ∷ []) ++ rest)
    ∙ ap (λ (t : List ℕ). or_else (as_kind kind.Iri (iri_end_at (t ++ rest))) (number_or_symbol_at (t ++ rest))) (sym h.2) in
    rw (e, iri_end_read slice cs rest h) (inl refl)

at_quote : (q : ℕ) (cs : List ℕ) → (q ≡ 34) ⊎ (q ≡ 39) → token_at (q ∷ cs) ≡ as_kind kind.Text (text_at q (q ∷ cs))
unfolding token_at
at_quote q cs (inl e) = rw e refl
at_quote q cs (inr e) = rw e refl

string_claims : (q : ℕ) (slice cs rest : List ℕ) → 92 ≢ q → (q ≡ 34) ⊎ (q ≡ 39) → IsString q slice cs → Beats kind.Text rest (token_at (slice ++ rest))
string_claims q slice cs rest nq is (inl h) =
    let e : token_at (slice ++ rest) ≡ as_kind kind.Text (text_at q (slice ++ rest)) =
    ap (λ (t : List ℕ). token_at (t ++ rest)) h.1 ∙ at_quote q ((h.0 ++ q ∷ []) ++ rest) is
    ∙ ap (λ (t : List ℕ). as_kind kind.Text (text_at q (t ++ rest))) (sym h.1) in
    rw e (short_claims q nq slice cs rest h)
string_claims q slice cs rest nq is (inr h) =
    let e : token_at (slice ++ rest) ≡ as_kind kind.Text (text_at q (q ∷ q ∷ q ∷ (h.0 ++ q ∷ q ∷ q ∷ rest))) =
    ap (λ (t : List ℕ). token_at (t ++ rest)) h.1 ∙ at_quote q (q ∷ q ∷ ((h.0 ++ q ∷ q ∷ q ∷ []) ++ rest)) is
    ∙ ap (λ (t : List ℕ). as_kind kind.Text (text_at q (q ∷ q ∷ q ∷ t))) (append_assoc h.0 (q ∷ q ∷ q ∷ []) rest) in
    rw (e, long_claims q nq h.0 cs rest h.2) (inl refl)

text_claims_here : (slice cs rest : List ℕ) → IsText slice cs → Beats kind.Text rest (token_at (slice ++ rest))
text_claims_here slice cs rest (inl h) = string_claims 34 slice cs rest (λ e. omega (arith, e)) (inl refl) h
text_claims_here slice cs rest (inr h) = string_claims 39 slice cs rest (λ e. omega (arith, e)) (inr refl) h

pub token_claims : (k : Kind) (slice rest : List ℕ) → HasForm k slice → Beats k rest (token_at (slice ++ rest))
token_claims kind.Iri slice rest h = iri_claims_here slice h.0 rest h.1
token_claims kind.Pname slice rest h = pname_claims_here slice rest h
token_claims kind.BlankLabel slice rest h = blank_claims_here slice rest h
token_claims kind.AtWord slice rest h = at_word_claims_here slice rest h
token_claims kind.Text slice rest h = text_claims_here slice h.0 rest h.1
token_claims kind.Integer slice rest h = number_claims_here kind.Integer slice rest h
token_claims kind.Decimal slice rest h = number_claims_here kind.Decimal slice rest h
token_claims kind.Double slice rest h = number_claims_here kind.Double slice rest h
token_claims kind.Var slice rest h = variable_claims_here slice rest h
token_claims kind.Word slice rest h = word_claims_here slice rest h
token_claims kind.Symbol slice rest h = symbol_claims_here slice rest h

-- ---- no token begins with a gap

pub white_begins_none : (cs : List ℕ) → (token_at (32 ∷ cs) ≡ None) × (token_at (9 ∷ cs) ≡ None) × (token_at (13 ∷ cs) ≡ None) × (token_at (10 ∷ cs) ≡ None) × (token_at (35 ∷ cs) ≡ None)
unfolding token_at is_pn_chars_base number_or_symbol_at number_at skip_sign unsigned_at digits_at some_of fraction_at expect symbol_at
white_begins_none cs = (refl, refl, refl, refl, refl)
