-- What the readers of escapes take is an escape, and every escape is taken.
use Rattle.std.proofs.Common.{◌≡◌, ℕ, ◌+◌, ◌*◌, ◌<◌, nat_lt, ◌==◌, List, [], ◌∷◌, ◌++◌, length, Some, refl, sym, ap, subst, ◌∙◌, inl, inr, append_assoc, length-append, arith}
use Rattle.std.specs.Char.{digit_value, IsScalar}
use Rattle.std.proofs.lemmas.Bool.{cases_Bool, ltb-true, lt-ltb, eqb-true}
use lib.Utf8.{scalar}
use Rattle.rdf_terms.specs.Reading.{◌>>=◌, hex_at, hex4_at, scalar_only, numeric_at}
use Rattle.rdf_terms.specs.Escapes.{AreHexDigits, number_after, IsNumericEscape}
use Rattle.rdf_terms.proofs.OptionLemmas.{bind_some, some_pair, none_is, guard_some}

-- ---- digits

pub hex_sound : (cs : List ℕ) (v : ℕ) (rest : List ℕ) → hex_at cs ≡ Some (v, rest) → (d : ℕ) × (cs ≡ d ∷ rest) × (digit_value d ≡ v) × (digit_value d < 16)
unfolding hex_at
hex_sound [] v rest e = none_is (v, rest) e
hex_sound (d ∷ cs) v rest e =
    let g = guard_some (nat_lt (digit_value d) 16) (Some (digit_value d, cs)) (v, rest) e in
    let p = some_pair (digit_value d) v cs rest g.1 in
    (d, ap (λ (t : List ℕ). d ∷ t) p.1, p.0, ltb-true (digit_value d) 16 g.0)

pub hex_complete : (d : ℕ) (rest : List ℕ) → digit_value d < 16 → hex_at (d ∷ rest) ≡ Some (digit_value d, rest)
unfolding hex_at
hex_complete d rest lt = let t = lt-ltb (digit_value d) 16 lt in rw t refl

hex4_sound : (cs : List ℕ) (v : ℕ) (rest : List ℕ) → hex4_at cs ≡ Some (v, rest)
    → (ds : List ℕ) × (cs ≡ ds ++ rest) × (length ds ≡ 4) × AreHexDigits ds × (number_after 0 ds ≡ v)
unfolding hex4_at
hex4_sound cs v rest e =
    let a = bind_some (hex_at cs) _ (v, rest) e in
    let b = bind_some (hex_at a.0.1) _ (v, rest) a.2 in
    let c = bind_some (hex_at b.0.1) _ (v, rest) b.2 in
    let d = bind_some (hex_at c.0.1) _ (v, rest) c.2 in
    let p = some_pair (a.0.0 * 4096 + b.0.0 * 256 + c.0.0 * 16 + d.0.0) v d.0.1 rest d.2 in
    let ha = hex_sound cs a.0.0 a.0.1 a.1 in
    let hb = hex_sound a.0.1 b.0.0 b.0.1 b.1 in
    let hc = hex_sound b.0.1 c.0.0 c.0.1 c.1 in
    let hd = hex_sound c.0.1 d.0.0 d.0.1 d.1 in
    (ha.0 ∷ hb.0 ∷ hc.0 ∷ hd.0 ∷ [], cc, refl, (ha.3, (hb.3, (hc.3, (hd.3, tt)))), omega (arith, ha.2, hb.2, hc.2, hd.2, p.0))

hex4_complete : (ds rest : List ℕ) → length ds ≡ 4 → AreHexDigits ds → hex4_at (ds ++ rest) ≡ Some (number_after 0 ds, rest)
unfolding hex4_at
hex4_complete (a ∷ b ∷ c ∷ d ∷ []) rest len hex =
    rw (hex_complete a (b ∷ c ∷ d ∷ rest) hex.0, hex_complete b (c ∷ d ∷ rest) hex.1.0, hex_complete c (d ∷ rest) hex.1.1.0, hex_complete d rest hex.1.1.1.0)
    (ap (λ (n : ℕ). Some (n, rest)) (omega arith))
hex4_complete _ rest len hex = absurd (omega arith)

AreHexDigits-append : (ds es : List ℕ) → AreHexDigits ds → AreHexDigits es → AreHexDigits (ds ++ es)
AreHexDigits-append [] es p q = q
AreHexDigits-append (d ∷ ds) es p q = (p.0, AreHexDigits-append ds es p.1 q)

number_after-append : (n : ℕ) (ds es : List ℕ) → number_after n (ds ++ es) ≡ number_after (number_after n ds) es
number_after-append n [] es = refl
number_after-append n (d ∷ ds) es = number_after-append (n * 16 + digit_value d) ds es

number_after-four : (n : ℕ) (ds : List ℕ) → length ds ≡ 4 → number_after n ds ≡ n * 65536 + number_after 0 ds
number_after-four n (a ∷ b ∷ c ∷ d ∷ []) len = omega arith
number_after-four n _ len = absurd (omega arith)

-- eight digits are four and four
halves : (ds : List ℕ) → length ds ≡ 8 → AreHexDigits ds
    → (high low : List ℕ) × (ds ≡ high ++ low) × (length high ≡ 4) × (length low ≡ 4) × AreHexDigits high × AreHexDigits low
halves (a ∷ b ∷ c ∷ d ∷ low) len hex =
    (a ∷ b ∷ c ∷ d ∷ [], low, refl, refl, omega arith, (hex.0, (hex.1.0, (hex.1.1.0, (hex.1.1.1.0, tt)))), hex.1.1.1.1)
halves _ len hex = absurd (omega arith)

-- ---- escapes by number

scalar_sound : (n : ℕ) (cs : List ℕ) (c : ℕ) (rest : List ℕ) → scalar_only n cs ≡ Some (c, rest) → IsScalar c × (n ≡ c) × (cs ≡ rest)
unfolding scalar_only
scalar_sound n cs c rest e =
    let g = guard_some (scalar n) (Some (n, cs)) (c, rest) e in
    let p = some_pair n c cs rest g.1 in
    (subst IsScalar p.0 g.0, p.0, p.1)

scalar_complete : (n : ℕ) (cs : List ℕ) → IsScalar n → scalar_only n cs ≡ Some (n, cs)
unfolding scalar_only
scalar_complete n cs h = rw h refl

numeric_sound-short : (cs : List ℕ) (c : ℕ) (rest : List ℕ)
    → (hex4_at cs >>= λ n. scalar_only n.0 n.1) ≡ Some (c, rest)
    → (unit : List ℕ) × (117 ∷ cs ≡ unit ++ rest) × IsNumericEscape (92 ∷ unit) c
numeric_sound-short cs c rest e =
    let b = bind_some (hex4_at cs) _ (c, rest) e in
    let s = scalar_sound b.0.0 b.0.1 c rest b.2 in
    let h = hex4_sound cs b.0.0 b.0.1 b.1 in (
      117 ∷ h.0,
      ap (λ (t : List ℕ). 117 ∷ t) (h.1 ∙ ap (λ (t : List ℕ). h.0 ++ t) s.2),
      record { digits = h.0; hex = h.3; form = inl (refl, h.2); value = h.4 ∙ s.1; scalar = s.0 },
    )

numeric_sound-long : (cs : List ℕ) (c : ℕ) (rest : List ℕ)
    → (hex4_at cs >>= λ high. (hex4_at high.1 >>= λ low. scalar_only (high.0 * 65536 + low.0) low.1)) ≡ Some (c, rest)
    → (unit : List ℕ) × (85 ∷ cs ≡ unit ++ rest) × IsNumericEscape (92 ∷ unit) c
numeric_sound-long cs c rest e =
    let a = bind_some (hex4_at cs) _ (c, rest) e in
    let b = bind_some (hex4_at a.0.1) _ (c, rest) a.2 in
    let s = scalar_sound (a.0.0 * 65536 + b.0.0) b.0.1 c rest b.2 in
    let h = hex4_sound cs a.0.0 a.0.1 a.1 in
    let l = hex4_sound a.0.1 b.0.0 b.0.1 b.1 in
    let value : number_after 0 (h.0 ++ l.0) ≡ c =
    number_after-append 0 h.0 l.0 ∙ number_after-four (number_after 0 h.0) l.0 l.2 ∙ omega (arith, h.4, l.4, s.1) in (
      85 ∷ (h.0 ++ l.0),
      ap (λ (t : List ℕ). 85 ∷ t) (h.1 ∙ ap (λ (t : List ℕ). h.0 ++ t) (l.1 ∙ ap (λ (t : List ℕ). l.0 ++ t) s.2) ∙ sym (append_assoc h.0 l.0 rest)),
      record { digits = h.0 ++ l.0; hex = AreHexDigits-append h.0 l.0 h.3 l.3; form = inr (refl, omega (arith, length-append h.0 l.0, h.2, l.2)); value = value; scalar = s.0 },
    )

pub numeric_sound : (cs : List ℕ) (c : ℕ) (rest : List ℕ) → numeric_at cs ≡ Some (c, rest)
    → (unit : List ℕ) × (cs ≡ unit ++ rest) × IsNumericEscape (92 ∷ unit) c
unfolding numeric_at
numeric_sound [] c rest e = none_is (c, rest) e
numeric_sound (d ∷ cs) c rest e =
    elim (cases_Bool (d == 117)) [
      | inl u ↦
          let d-is : d ≡ 117 = eqb-true d 117 u in
          let n = numeric_sound-short cs c rest (rw u at e) in
          (n.0, ap (λ (x : ℕ). x ∷ cs) d-is ∙ n.1, n.2)
      | inr not-u ↦
          let g = guard_some (d == 85) (hex4_at cs >>= λ high. (hex4_at high.1 >>= λ low. scalar_only (high.0 * 65536 + low.0) low.1)) (c, rest) (rw not-u at e) in
          let d-is : d ≡ 85 = eqb-true d 85 g.0 in
          let n = numeric_sound-long cs c rest g.1 in
          (n.0, ap (λ (x : ℕ). x ∷ cs) d-is ∙ n.1, n.2)
    ]

numeric_complete-short : (ds : List ℕ) (c : ℕ) (rest : List ℕ) → AreHexDigits ds → length ds ≡ 4 → number_after 0 ds ≡ c → IsScalar c
    → numeric_at (117 ∷ (ds ++ rest)) ≡ Some (c, rest)
unfolding numeric_at
numeric_complete-short ds c rest hex len value is =
    rw (hex4_complete ds rest len hex, value) (scalar_complete c rest is)

numeric_complete-long : (ds : List ℕ) (c : ℕ) (rest : List ℕ) → AreHexDigits ds → length ds ≡ 8 → number_after 0 ds ≡ c → IsScalar c
    → numeric_at (85 ∷ (ds ++ rest)) ≡ Some (c, rest)
unfolding numeric_at
numeric_complete-long ds c rest hex len value is =
    let h = halves ds len hex in
    let regrouped : ds ++ rest ≡ h.0 ++ (h.1 ++ rest) = ap (λ (t : List ℕ). t ++ rest) h.2 ∙ append_assoc h.0 h.1 rest in
    let number : number_after 0 h.0 * 65536 + number_after 0 h.1 ≡ c =
    sym (number_after-four (number_after 0 h.0) h.1 h.4) ∙ sym (number_after-append 0 h.0 h.1) ∙ ap (number_after 0) (sym h.2) ∙ value in
    rw (regrouped, hex4_complete h.0 (h.1 ++ rest) h.3 h.5, hex4_complete h.1 rest h.4 h.6, number) (scalar_complete c rest is)

tail_is : (a b : ℕ) (xs ys : List ℕ) → (a ∷ xs) ≡ (b ∷ ys) → xs ≡ ys
tail_is a b xs ys e = cc

pub numeric_complete : (unit : List ℕ) (c : ℕ) (rest : List ℕ) → IsNumericEscape (92 ∷ unit) c → numeric_at (unit ++ rest) ≡ Some (c, rest)
numeric_complete unit c rest h =
    elim h.form [
      | inl s ↦
          let e : unit ≡ 117 ∷ h.digits = tail_is 92 92 unit (117 ∷ h.digits) s.0 in
          ap (λ (t : List ℕ). numeric_at (t ++ rest)) e ∙ numeric_complete-short h.digits c rest h.hex s.1 h.value h.scalar
      | inr l ↦
          let e : unit ≡ 85 ∷ h.digits = tail_is 92 92 unit (85 ∷ h.digits) l.0 in
          ap (λ (t : List ℕ). numeric_at (t ++ rest)) e ∙ numeric_complete-long h.digits c rest h.hex l.1 h.value h.scalar
    ]
