-- Numbers: what is read is one, and each is read, or a longer one.
use Rattle.std.proofs.Common.{◌≡◌, ◌<◌, ◌≤◌, ◌⊎◌, ℕ, Bool, true, false, eqb, List, [], ◌∷◌, ◌++◌, length, Some, None, refl, sym, ap, subst, ◌∙◌, inl, inr, append_assoc, length-append, arith}
use Rattle.std.specs.Char.{is_ascii_digit}
use Rattle.std.proofs.lemmas.Bool.{cases_Bool, eqb-true, ne_eqb, or_cases, true≢false}
use Rattle.rdf_tokens.specs.declared.token.Kind.{Kind}
use Rattle.rdf_tokens.specs.declared.token.Kind.TheVariants as kind
use Rattle.rdf_tokens.specs.Characters.{is_sign, is_exponent_letter}
use Rattle.rdf_tokens.specs.Forms.{AreDigits, HasDigits, IsSign, IsExponent, IsFraction, IsMantissa, IsExponential, Signed, HasForm}
use Rattle.rdf_terms.specs.Reading.{expect}
use Rattle.rdf_tokens.specs.Inside.TokenReading.{digits_at, skip_sign, exponent_at, with_exponent, fraction_at, dot_exponent_at, whole_at, unsigned_at, number_at}
use Rattle.rdf_terms.proofs.CallerLemmas.{cases_Option, bind_some, some_is, none_is, guard_some, expect_sound, expect_complete, skip_less, skip_stop, some_sound, some_complete}
use Rattle.rdf_terms.specs.Skips.{skip, some_of}
use Rattle.rdf_tokens.proofs.TokenClaims.{Beats, Sound}

-- a character that passes is not one that doesn't
pub differs : (p : ℕ → Bool) (c d : ℕ) → p c ≡ true → p d ≡ false → eqb c d ≡ false
differs p c d h k = ne_eqb c d (λ e. true≢false (sym h ∙ ap p e ∙ k))

-- ---- digits and signs

digits_over : (ds rest : List ℕ) → HasDigits ds → digits_at (ds ++ rest) ≡ Some (skip is_ascii_digit rest)
unfolding digits_at
digits_over [] rest h = absurd (omega (arith, h.0))
digits_over (d ∷ ds) rest h = some_complete is_ascii_digit is_ascii_digit d ds rest h.1.0 h.1.1

digits_sound : (cs rest : List ℕ) → digits_at cs ≡ Some rest → (ds : List ℕ) × (cs ≡ ds ++ rest) × HasDigits ds
unfolding digits_at
digits_sound cs rest e =
    let s = some_sound is_ascii_digit is_ascii_digit cs rest e in
    (s.0 ∷ s.1, s.2, (omega arith, (s.3, s.4)))

digits_none : (c : ℕ) (cs : List ℕ) → is_ascii_digit c ≡ false → digits_at (c ∷ cs) ≡ None
unfolding digits_at some_of
digits_none c cs h = rw h refl

digit_no_sign : (c : ℕ) → is_ascii_digit c ≡ true → is_sign c ≡ false
digit_no_sign c h = rw (differs is_ascii_digit c 43 h refl, differs is_ascii_digit c 45 h refl) refl

exponent_no_digit : (c : ℕ) → is_exponent_letter c ≡ true → is_ascii_digit c ≡ false
exponent_no_digit c h =
    elim (or_cases (eqb c 101) (eqb c 69) h) [
      | inl e ↦ ap is_ascii_digit (eqb-true c 101 e)
      | inr e ↦ ap is_ascii_digit (eqb-true c 69 e)
    ]

exponent_no_dot : (c : ℕ) (cs : List ℕ) → is_exponent_letter c ≡ true → expect 46 (c ∷ cs) ≡ None
unfolding expect
exponent_no_dot c cs h = rw (differs is_exponent_letter c 46 h refl) refl

abbrev NoSign : List ℕ → Type 0
NoSign [] = Unit {0}
NoSign (c ∷ _) = is_sign c ≡ false

no_sign : (cs : List ℕ) → NoSign cs → skip_sign cs ≡ cs
unfolding skip_sign
no_sign [] h = refl
no_sign (c ∷ cs) h = rw h refl

sign_over : (sign cs : List ℕ) → IsSign sign → NoSign cs → skip_sign (sign ++ cs) ≡ cs
unfolding skip_sign
sign_over [] cs s h = no_sign cs h
sign_over (c ∷ more) cs s h = rw s.0 (ap (λ (t : List ℕ). t ++ cs) s.1)

sign_sound : (cs : List ℕ) → (sign : List ℕ) × (cs ≡ sign ++ skip_sign cs) × IsSign sign
unfolding skip_sign
sign_sound [] = ([], refl, tt)
sign_sound (c ∷ cs) =
    elim (cases_Bool (is_sign c)) [
      | inl is ↦ rw is (c ∷ [], refl, (is, refl))
      | inr not ↦ rw not ([], refl, tt)
    ]

digits_no_sign : (ds rest : List ℕ) → HasDigits ds → NoSign (ds ++ rest)
digits_no_sign [] rest h = absurd (omega (arith, h.0))
digits_no_sign (d ∷ ds) rest h = digit_no_sign d h.1.0

-- ---- exponents

exponent_behind : (e : ℕ) (sign digits rest : List ℕ) → is_exponent_letter e ≡ true → IsSign sign → HasDigits digits
    → exponent_at (e ∷ (sign ++ (digits ++ rest))) ≡ Some (skip is_ascii_digit rest)
unfolding exponent_at
exponent_behind e sign digits rest is s d =
    rw (is, sign_over sign (digits ++ rest) s (digits_no_sign digits rest d)) (digits_over digits rest d)

exponent_over : (slice rest : List ℕ) → IsExponent slice → exponent_at (slice ++ rest) ≡ Some (skip is_ascii_digit rest)
exponent_over slice rest h =
    ap (λ (t : List ℕ). exponent_at (t ++ rest)) h.3
    ∙ ap (λ (t : List ℕ). exponent_at (h.0 ∷ t)) (append_assoc h.1 h.2 rest)
    ∙ exponent_behind h.0 h.1 h.2 rest h.4 h.5 h.6

exponent_sound : (cs rest : List ℕ) → exponent_at cs ≡ Some rest → (slice : List ℕ) × (cs ≡ slice ++ rest) × IsExponent slice
unfolding exponent_at
exponent_sound [] rest e = none_is rest e
exponent_sound (c ∷ cs) rest e =
    let g = guard_some (is_exponent_letter c) (digits_at (skip_sign cs)) rest e in
    let s = sign_sound cs in
    let d = digits_sound (skip_sign cs) rest g.1 in (
      c ∷ (s.0 ++ d.0),
      ap (λ (t : List ℕ). c ∷ t) (s.1 ∙ ap (λ (t : List ℕ). s.0 ++ t) d.1 ∙ sym (append_assoc s.0 d.0 rest)),
      (c, s.0, d.0, refl, g.0, s.2, d.2),
    )

-- what follows digits: an exponent, or nothing that is taken
exponent_or_not : (k : Kind) (cs : List ℕ)
    → (with_exponent k cs ≡ (k, cs)) ⊎ ((slice rest : List ℕ) × (with_exponent k cs ≡ (kind.Double, rest)) × (cs ≡ slice ++ rest) × IsExponent slice)
unfolding with_exponent
exponent_or_not k cs =
    elim (cases_Option (exponent_at cs)) [
      | inl none ↦ rw none (inl refl)
      | inr some ↦
          let s = exponent_sound cs some.0 some.1 in
          rw some.1 (inr (s.0, some.0, refl, s.1, s.2))
    ]

front_less : (front cs rest : List ℕ) → cs ≡ front ++ rest → 0 < length front → length rest < length cs
front_less front cs rest e lt = omega (arith, ap length e, length-append front rest)

exponent_long : (slice : List ℕ) → IsExponent slice → 0 < length slice
exponent_long slice h = omega (arith, ap length h.3)

with_exponent_less : (k : Kind) (cs : List ℕ) → (with_exponent k cs ≡ (k, cs)) ⊎ (length (with_exponent k cs).1 < length cs)
with_exponent_less k cs =
    elim (exponent_or_not k cs) [
      | inl same ↦ inl same
      | inr s ↦ rw s.2 (inr (front_less s.0 cs s.1 s.3 (exponent_long s.0 s.4)))
    ]

with_exponent_found : (k : Kind) (slice rest : List ℕ) → IsExponent slice → with_exponent k (slice ++ rest) ≡ (kind.Double, skip is_ascii_digit rest)
unfolding with_exponent
with_exponent_found k slice rest h = rw (exponent_over slice rest h) refl

-- ---- fractions

fraction_over : (part rest : List ℕ) → HasDigits part → fraction_at (46 ∷ (part ++ rest)) ≡ Some (with_exponent kind.Decimal (skip is_ascii_digit rest))
unfolding fraction_at
fraction_over part rest h = rw (expect_complete 46 (part ++ rest), digits_over part rest h) refl

fraction_sound : (cs : List ℕ) (t : Kind × List ℕ) → fraction_at cs ≡ Some t
    → (part mid : List ℕ) × (cs ≡ 46 ∷ (part ++ mid)) × HasDigits part × (with_exponent kind.Decimal mid ≡ t)
unfolding fraction_at
fraction_sound cs t e =
    let a = bind_some (expect 46 cs) _ t e in
    let b = bind_some (digits_at a.0) _ t a.2 in
    let d = digits_sound a.0 b.0 b.1 in
    (d.0, b.0, expect_sound 46 cs a.0 a.1 ∙ ap (λ (x : List ℕ). 46 ∷ x) d.1, d.2, some_is (with_exponent kind.Decimal b.0) t b.2)

dot_exponent_over : (slice rest : List ℕ) → IsExponent slice → dot_exponent_at (46 ∷ (slice ++ rest)) ≡ Some (skip is_ascii_digit rest)
unfolding dot_exponent_at
dot_exponent_over slice rest h = rw (expect_complete 46 (slice ++ rest)) (exponent_over slice rest h)

dot_exponent_sound : (cs rest : List ℕ) → dot_exponent_at cs ≡ Some rest → (slice : List ℕ) × (cs ≡ 46 ∷ (slice ++ rest)) × IsExponent slice
unfolding dot_exponent_at
dot_exponent_sound cs rest e =
    let a = bind_some (expect 46 cs) _ rest e in
    let s = exponent_sound a.0 rest a.2 in
    (s.0, expect_sound 46 cs a.0 a.1 ∙ ap (λ (x : List ℕ). 46 ∷ x) s.1, s.2)

no_fraction : (cs : List ℕ) → expect 46 cs ≡ None → fraction_at cs ≡ None
unfolding fraction_at
no_fraction cs e = rw e refl

no_dot_exponent : (cs : List ℕ) → expect 46 cs ≡ None → dot_exponent_at cs ≡ None
unfolding dot_exponent_at
no_dot_exponent cs e = rw e refl

-- ---- what is read is a number

abbrev pub Unsigned : Kind → List ℕ → Type 0
Unsigned kind.Integer slice = HasDigits slice
Unsigned kind.Decimal slice = IsFraction slice
Unsigned kind.Double slice = IsExponential slice
Unsigned _ slice = ⊥

abbrev Reads : List ℕ → Kind × List ℕ → Type 0
Reads cs t = (slice : List ℕ) × (cs ≡ slice ++ t.1) × Unsigned t.0 slice

-- a slice with a reading and perhaps an exponent behind it
behind_slice : (k : Kind) (slice mid : List ℕ) → Unsigned k slice → IsMantissa slice → Reads (slice ++ mid) (with_exponent k mid)
behind_slice k slice mid form mantissa =
    elim (exponent_or_not k mid) [
      | inl same ↦ rw same (slice, refl, form)
      | inr s ↦ rw s.2 (slice ++ s.0, ap (λ (t : List ℕ). slice ++ t) s.3 ∙ sym (append_assoc slice s.0 s.1), (slice, s.0, refl, mantissa, s.4))
    ]

whole_sound : (ds mid : List ℕ) → HasDigits ds → Reads (ds ++ mid) (whole_at mid)
unfolding whole_at
whole_sound ds mid h =
    elim (cases_Option (fraction_at mid)) [
      | inr found ↦
          let f = fraction_sound mid found.0 found.1 in
          let r = behind_slice kind.Decimal (ds ++ 46 ∷ f.0) f.1 (ds, f.0, refl, h.1, f.3) (inl (ds, f.0, refl, h, f.3.1)) in
          rw found.1 (subst (Reads (ds ++ mid)) f.4
          (subst (λ (t : List ℕ). Reads t (with_exponent kind.Decimal f.1)) (append_assoc ds (46 ∷ f.0) f.1 ∙ ap (λ (t : List ℕ). ds ++ t) (sym f.2)) r))
      | inl none ↦
          elim (cases_Option (dot_exponent_at mid)) [
            | inr found ↦
                let s = dot_exponent_sound mid found.0 found.1 in
                rw (none, found.1) (
                  (ds ++ 46 ∷ []) ++ s.0,
                  ap (λ (t : List ℕ). ds ++ t) s.1 ∙ sym (append_assoc ds (46 ∷ s.0) found.0) ∙ ap (λ (t : List ℕ). t ++ found.0) (sym (append_assoc ds (46 ∷ []) s.0)),
                  (ds ++ 46 ∷ [], s.0, refl, inl (ds, [], refl, h, tt), s.2),
                )
            | inl neither ↦ rw (none, neither) (behind_slice kind.Integer ds mid h (inr (inr h)))
          ]
    ]

unsigned_sound : (cs : List ℕ) (t : Kind × List ℕ) → unsigned_at cs ≡ Some t → Reads cs t
unfolding unsigned_at
unsigned_sound cs t e =
    elim (cases_Option (digits_at cs)) [
      | inr found ↦
          let d = digits_sound cs found.0 found.1 in
          let same : whole_at found.0 ≡ t = some_is (whole_at found.0) t (rw found.1 at e) in
          subst (Reads cs) same (subst (λ (x : List ℕ). Reads x (whole_at found.0)) (sym d.1) (whole_sound d.0 found.0 d.2))
      | inl none ↦
          let f = fraction_sound cs t (rw none at e) in
          subst (Reads cs) f.4
          (subst (λ (x : List ℕ). Reads x (with_exponent kind.Decimal f.1)) (sym f.2)
          (behind_slice kind.Decimal (46 ∷ f.0) f.1 ([], f.0, refl, tt, f.3) (inr (inl (f.0, refl, f.3)))))
    ]

signed_form : (k : Kind) (sign slice : List ℕ) → IsSign sign → Unsigned k slice → HasForm k (sign ++ slice)
signed_form kind.Integer sign slice s h = (sign, slice, refl, s, h)
signed_form kind.Decimal sign slice s h = (sign, slice, refl, s, h)
signed_form kind.Double sign slice s h = (sign, slice, refl, s, h)
signed_form _ sign slice s h = absurd h

pub number_sound : (cs : List ℕ) (t : Kind × List ℕ) → number_at cs ≡ Some t → Sound t.0 cs t.1
unfolding number_at
number_sound cs t e =
    let s = sign_sound cs in
    let r = unsigned_sound (skip_sign cs) t e in
    (s.0 ++ r.0, s.1 ∙ ap (λ (x : List ℕ). s.0 ++ x) r.1 ∙ sym (append_assoc s.0 r.0 t.1), signed_form t.0 s.0 r.0 s.2 r.2)

-- ---- each number is read, or a longer one

with_exponent_within : (k : Kind) (cs : List ℕ) → length (with_exponent k cs).1 ≤ length cs
with_exponent_within k cs =
    elim (with_exponent_less k cs) [
      | inl same ↦ rw same (omega arith)
      | inr less ↦ omega (arith, less)
    ]

whole_less : (cs : List ℕ) → (whole_at cs ≡ (kind.Integer, cs)) ⊎ (length (whole_at cs).1 < length cs)
unfolding whole_at
whole_less cs =
    elim (cases_Option (fraction_at cs)) [
      | inr found ↦
          let f = fraction_sound cs found.0 found.1 in
          let within = with_exponent_within kind.Decimal f.1 in
          rw found.1 (inr (omega (arith, ap length f.2, length-append f.0 f.1, within, ap (λ (t : Kind × List ℕ). length t.1) f.4)))
      | inl none ↦
          elim (cases_Option (dot_exponent_at cs)) [
            | inr found ↦
                let s = dot_exponent_sound cs found.0 found.1 in
                rw (none, found.1) (inr (omega (arith, ap length s.1, length-append s.0 found.0)))
            | inl neither ↦ rw (none, neither) (with_exponent_less kind.Integer cs)
          ]
    ]

-- what is read behind more of the same characters
beats_behind : (k : Kind) (p : ℕ → Bool) (rest : List ℕ) (t : Kind × List ℕ)
    → (t ≡ (k, skip p rest)) ⊎ (length t.1 < length (skip p rest)) → Beats k rest (Some t)
beats_behind k p rest t h =
    elim (skip_less p rest) [
      | inl same ↦ subst (λ (x : List ℕ). (t ≡ (k, x)) ⊎ (length t.1 < length x)) same h
      | inr less ↦
          elim h [
            | inl e ↦ inr (omega (arith, ap (λ (x : Kind × List ℕ). length x.1) e, less))
            | inr shorter ↦ inr (omega (arith, shorter, less))
          ]
    ]

integer_claims : (ds rest : List ℕ) → HasDigits ds → Beats kind.Integer rest (unsigned_at (ds ++ rest))
unfolding unsigned_at
integer_claims ds rest h =
    rw (digits_over ds rest h) (beats_behind kind.Integer is_ascii_digit rest (whole_at (skip is_ascii_digit rest)) (whole_less (skip is_ascii_digit rest)))

fraction_read : (whole part rest : List ℕ) → AreDigits whole → HasDigits part
    → unsigned_at (whole ++ 46 ∷ (part ++ rest)) ≡ Some (with_exponent kind.Decimal (skip is_ascii_digit rest))
unfolding unsigned_at whole_at
fraction_read [] part rest w p = rw (digits_none 46 (part ++ rest) refl) (fraction_over part rest p)
fraction_read (d ∷ ds) part rest w p =
    rw (digits_over (d ∷ ds) (46 ∷ (part ++ rest)) (omega arith, w), skip_stop is_ascii_digit 46 (part ++ rest) refl, fraction_over part rest p) refl

decimal_claims : (slice rest : List ℕ) → IsFraction slice → Beats kind.Decimal rest (unsigned_at (slice ++ rest))
decimal_claims slice rest h =
    let read : unsigned_at (slice ++ rest) ≡ Some (with_exponent kind.Decimal (skip is_ascii_digit rest)) =
    ap (λ (t : List ℕ). unsigned_at (t ++ rest)) h.2 ∙ ap unsigned_at (append_assoc h.0 (46 ∷ h.1) rest) ∙ fraction_read h.0 h.1 rest h.3 h.4 in
    rw read (beats_behind kind.Decimal is_ascii_digit rest (with_exponent kind.Decimal (skip is_ascii_digit rest)) (with_exponent_less kind.Decimal (skip is_ascii_digit rest)))

-- digits stop before an exponent
stops_before : (slice rest : List ℕ) → IsExponent slice → skip is_ascii_digit (slice ++ rest) ≡ slice ++ rest
stops_before slice rest h =
    rw h.3 (skip_stop is_ascii_digit h.0 ((h.1 ++ h.2) ++ rest) (exponent_no_digit h.0 h.4))

no_digits_before : (slice rest : List ℕ) → IsExponent slice → digits_at (slice ++ rest) ≡ None
no_digits_before slice rest h = rw h.3 (digits_none h.0 ((h.1 ++ h.2) ++ rest) (exponent_no_digit h.0 h.4))

no_dot_before : (slice rest : List ℕ) → IsExponent slice → expect 46 (slice ++ rest) ≡ None
no_dot_before slice rest h = rw h.3 (exponent_no_dot h.0 ((h.1 ++ h.2) ++ rest) h.4)

double_whole : (ds x rest : List ℕ) → HasDigits ds → IsExponent x → unsigned_at (ds ++ (x ++ rest)) ≡ Some (kind.Double, skip is_ascii_digit rest)
unfolding unsigned_at whole_at
double_whole ds x rest d h =
    rw (digits_over ds (x ++ rest) d, stops_before x rest h, no_fraction (x ++ rest) (no_dot_before x rest h), no_dot_exponent (x ++ rest) (no_dot_before x rest h))
    (ap (λ (t : Kind × List ℕ). Some t) (with_exponent_found kind.Integer x rest h))

double_part : (whole part x rest : List ℕ) → AreDigits whole → HasDigits part → IsExponent x
    → unsigned_at (whole ++ 46 ∷ (part ++ (x ++ rest))) ≡ Some (kind.Double, skip is_ascii_digit rest)
double_part whole part x rest w p h =
    fraction_read whole part (x ++ rest) w p
    ∙ ap (λ (t : List ℕ). Some (with_exponent kind.Decimal t)) (stops_before x rest h)
    ∙ ap (λ (t : Kind × List ℕ). Some t) (with_exponent_found kind.Decimal x rest h)

no_part : (cs : List ℕ) → digits_at cs ≡ None → fraction_at (46 ∷ cs) ≡ None
unfolding fraction_at
no_part cs e = rw (expect_complete 46 cs, e) refl

double_dot : (ds x rest : List ℕ) → HasDigits ds → IsExponent x → unsigned_at (ds ++ 46 ∷ (x ++ rest)) ≡ Some (kind.Double, skip is_ascii_digit rest)
unfolding unsigned_at whole_at
double_dot ds x rest d h =
    rw (digits_over ds (46 ∷ (x ++ rest)) d, skip_stop is_ascii_digit 46 (x ++ rest) refl, no_part (x ++ rest) (no_digits_before x rest h), dot_exponent_over x rest h) refl

double_read : (m x rest : List ℕ) → IsMantissa m → IsExponent x → unsigned_at (m ++ (x ++ rest)) ≡ Some (kind.Double, skip is_ascii_digit rest)
double_read m x rest (inl h) e =
    ap (λ (t : List ℕ). unsigned_at (t ++ (x ++ rest))) h.2 ∙ ap unsigned_at (append_assoc h.0 (46 ∷ h.1) (x ++ rest)) ∙ with_part h.0 h.1 h.3 h.4
  where
    with_part : (whole part : List ℕ) → HasDigits whole → AreDigits part → unsigned_at (whole ++ 46 ∷ (part ++ (x ++ rest))) ≡ Some (kind.Double, skip is_ascii_digit rest)
    with_part whole [] w p = double_dot whole x rest w e
    with_part whole (d ∷ ds) w p = double_part whole (d ∷ ds) x rest w.1 (omega arith, p) e
double_read m x rest (inr (inl h)) e =
    ap (λ (t : List ℕ). unsigned_at (t ++ (x ++ rest))) h.1 ∙ double_part [] h.0 x rest tt h.2 e
double_read m x rest (inr (inr h)) e = double_whole m x rest h e

double_claims : (slice rest : List ℕ) → IsExponential slice → Beats kind.Double rest (unsigned_at (slice ++ rest))
double_claims slice rest h =
    let read : unsigned_at (slice ++ rest) ≡ Some (kind.Double, skip is_ascii_digit rest) =
    ap (λ (t : List ℕ). unsigned_at (t ++ rest)) h.2 ∙ ap unsigned_at (append_assoc h.0 h.1 rest) ∙ double_read h.0 h.1 rest h.3 h.4 in
    rw read (beats_behind kind.Double is_ascii_digit rest (kind.Double, skip is_ascii_digit rest) (inl refl))

unsigned_claims : (k : Kind) (slice rest : List ℕ) → Unsigned k slice → Beats k rest (unsigned_at (slice ++ rest))
unsigned_claims kind.Integer slice rest h = integer_claims slice rest h
unsigned_claims kind.Decimal slice rest h = decimal_claims slice rest h
unsigned_claims kind.Double slice rest h = double_claims slice rest h
unsigned_claims _ slice rest h = absurd h

-- a number begins with a digit or a dot
fraction_no_sign : (whole more : List ℕ) → AreDigits whole → NoSign (whole ++ 46 ∷ more)
fraction_no_sign [] more w = refl
fraction_no_sign (d ∷ ds) more w = digit_no_sign d w.0

mantissa_no_sign : (m rest : List ℕ) → IsMantissa m → NoSign (m ++ rest)
mantissa_no_sign m rest (inl h) =
    subst NoSign (sym (ap (λ (t : List ℕ). t ++ rest) h.2 ∙ append_assoc h.0 (46 ∷ h.1) rest)) (fraction_no_sign h.0 (h.1 ++ rest) h.3.1)
mantissa_no_sign m rest (inr (inl h)) = subst NoSign (sym (ap (λ (t : List ℕ). t ++ rest) h.1)) refl
mantissa_no_sign m rest (inr (inr h)) = digits_no_sign m rest h

unsigned_no_sign : (k : Kind) (slice rest : List ℕ) → Unsigned k slice → NoSign (slice ++ rest)
unsigned_no_sign kind.Integer slice rest h = digits_no_sign slice rest h
unsigned_no_sign kind.Decimal slice rest h =
    subst NoSign (sym (ap (λ (t : List ℕ). t ++ rest) h.2 ∙ append_assoc h.0 (46 ∷ h.1) rest)) (fraction_no_sign h.0 (h.1 ++ rest) h.3)
unsigned_no_sign kind.Double slice rest h =
    subst NoSign (sym (ap (λ (t : List ℕ). t ++ rest) h.2 ∙ append_assoc h.0 h.1 rest)) (mantissa_no_sign h.0 (h.1 ++ rest) h.3)
unsigned_no_sign _ slice rest h = absurd h

pub number_claims : (k : Kind) (slice rest : List ℕ) → Signed (Unsigned k) slice → Beats k rest (number_at (slice ++ rest))
unfolding number_at
number_claims k slice rest h =
    let over : skip_sign (slice ++ rest) ≡ h.1 ++ rest =
    ap (λ (t : List ℕ). skip_sign (t ++ rest)) h.2 ∙ ap skip_sign (append_assoc h.0 h.1 rest) ∙ sign_over h.0 (h.1 ++ rest) h.3 (unsigned_no_sign k h.1 rest h.4) in
    rw over (unsigned_claims k h.1 rest h.4)

-- ---- a number takes more than a symbol

unsigned_positive : (k : Kind) (slice : List ℕ) → Unsigned k slice → 0 < length slice
unsigned_positive kind.Integer slice h = h.0
unsigned_positive kind.Decimal slice h = omega (arith, ap length h.2, length-append h.0 (46 ∷ h.1))
unsigned_positive kind.Double slice h = omega (arith, ap length h.2, length-append h.0 h.1, exponent_long h.1 h.4)
unsigned_positive _ slice h = absurd h

unsigned_less : (cs : List ℕ) (t : Kind × List ℕ) → unsigned_at cs ≡ Some t → length t.1 < length cs
unsigned_less cs t e =
    let s = unsigned_sound cs t e in
    front_less s.0 cs t.1 s.1 (unsigned_positive t.0 s.0 s.2)

fraction_less : (c : ℕ) (rest : List ℕ) (t : Kind × List ℕ) → fraction_at (c ∷ rest) ≡ Some t → length t.1 < length rest
fraction_less c rest t e =
    let f = fraction_sound (c ∷ rest) t e in
    let digits = f.3.0 in
    let within = with_exponent_within kind.Decimal f.1 in
    omega (arith, ap length f.2, length-append f.0 f.1, digits, within, ap (λ (x : Kind × List ℕ). length x.1) f.4)

no_digits : (c : ℕ) (rest : List ℕ) (t : Kind × List ℕ) → is_ascii_digit c ≡ false → unsigned_at (c ∷ rest) ≡ Some t → fraction_at (c ∷ rest) ≡ Some t
unfolding unsigned_at
no_digits c rest t d e = rw (digits_none c rest d) at e

pub number_less : (c : ℕ) (rest : List ℕ) (t : Kind × List ℕ) → is_ascii_digit c ≡ false → number_at (c ∷ rest) ≡ Some t → length t.1 < length rest
unfolding number_at skip_sign
number_less c rest t d e =
    elim (cases_Bool (is_sign c)) [
      | inl is ↦ unsigned_less rest t (rw is at e)
      | inr not ↦ fraction_less c rest t (no_digits c rest t d (rw not at e))
    ]

pub number_none : (c : ℕ) (rest : List ℕ) → is_ascii_digit c ≡ false → is_sign c ≡ false → expect 46 (c ∷ rest) ≡ None → number_at (c ∷ rest) ≡ None
unfolding number_at skip_sign unsigned_at
number_none c rest d s dot = rw (s, digits_none c rest d) (no_fraction (c ∷ rest) dot)

-- ---- how a number begins

-- a sign, a digit or a dot
abbrev pub StartsNumber : ℕ → Type 0
StartsNumber c = (is_sign c ≡ true) ⊎ ((is_ascii_digit c ≡ true) ⊎ (c ≡ 46))

abbrev Starts : List ℕ → Type 0
Starts [] = ⊥
Starts (c ∷ _) = StartsNumber c

digits_start : (ds rest : List ℕ) → HasDigits ds → Starts (ds ++ rest)
digits_start [] rest h = absurd (omega (arith, h.0))
digits_start (d ∷ ds) rest h = inr (inl h.1.0)

fraction_starts : (whole more : List ℕ) → AreDigits whole → Starts (whole ++ 46 ∷ more)
fraction_starts [] more w = inr (inr refl)
fraction_starts (d ∷ ds) more w = inr (inl w.0)

mantissa_starts : (m rest : List ℕ) → IsMantissa m → Starts (m ++ rest)
mantissa_starts m rest (inl h) =
    subst Starts (sym (ap (λ (t : List ℕ). t ++ rest) h.2 ∙ append_assoc h.0 (46 ∷ h.1) rest)) (fraction_starts h.0 (h.1 ++ rest) h.3.1)
mantissa_starts m rest (inr (inl h)) = subst Starts (sym (ap (λ (t : List ℕ). t ++ rest) h.1)) (inr (inr refl))
mantissa_starts m rest (inr (inr h)) = digits_start m rest h

unsigned_starts : (k : Kind) (slice rest : List ℕ) → Unsigned k slice → Starts (slice ++ rest)
unsigned_starts kind.Integer slice rest h = digits_start slice rest h
unsigned_starts kind.Decimal slice rest h =
    subst Starts (sym (ap (λ (t : List ℕ). t ++ rest) h.2 ∙ append_assoc h.0 (46 ∷ h.1) rest)) (fraction_starts h.0 (h.1 ++ rest) h.3)
unsigned_starts kind.Double slice rest h =
    subst Starts (sym (ap (λ (t : List ℕ). t ++ rest) h.2 ∙ append_assoc h.0 h.1 rest)) (mantissa_starts h.0 (h.1 ++ rest) h.3)
unsigned_starts _ slice rest h = absurd h

sign_starts : (sign cs : List ℕ) → IsSign sign → Starts cs → Starts (sign ++ cs)
sign_starts [] cs s h = h
sign_starts (c ∷ more) cs s h = inl s.0

starts_with : (cs : List ℕ) → Starts cs → (c : ℕ) × (others : List ℕ) × (cs ≡ c ∷ others) × StartsNumber c
starts_with [] h = absurd h
starts_with (c ∷ cs) h = (c, cs, refl, h)

pub number_starts : (k : Kind) (slice rest : List ℕ) → Signed (Unsigned k) slice → (c : ℕ) × (others : List ℕ) × (slice ++ rest ≡ c ∷ others) × StartsNumber c
number_starts k slice rest h =
    let whole : slice ++ rest ≡ h.0 ++ (h.1 ++ rest) = ap (λ (t : List ℕ). t ++ rest) h.2 ∙ append_assoc h.0 h.1 rest in
    starts_with (slice ++ rest) (subst Starts (sym whole) (sign_starts h.0 (h.1 ++ rest) h.3 (unsigned_starts k h.1 rest h.4)))
