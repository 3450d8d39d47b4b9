-- An IRI with the value of a local part behind it.
use Rattle.std.proofs.Common.{◌≡◌, ◌≢◌, ◌<◌, ◌≤◌, ◌⊎◌, ℕ, Bool, true, false, eqb, ltb, leb, not, ◌||◌, ◌&&◌, List, [], ◌∷◌, ◌++◌, is_some, refl, sym, ap, subst, ◌∙◌, inl, inr, arith}
use Rattle.std.proofs.lemmas.Bool.{cases_Bool, eqb-true, ne_eqb, ltb-true, ltb-false, lt-ltb, le-ltb, leb-true, le-leb, or_cases, or_from, and_parts, and_from, not-true, not_from_false, true≢false}
use Rattle.std.proofs.lemmas.List.Folds.{list_any-append}
use Rattle.std.proofs.lemmas.Str.{IsUtf8-append, IsUtf8-from_is_utf8, is_utf8-from_IsUtf8}
use Rattle.std.specs.Prelude.{◌==◌, flat_map, IsTrue}
use Rattle.std.specs.Char.{digit_value}
use Rattle.std.specs.Int.{is_in_range}
use Rattle.std.specs.List.{AllByRecursion}
use Rattle.std.specs.Str.{encode_utf8_all, IsUtf8, is_utf8, NonePass}
use lib.Utf8.{scalar, scalars}
use Rattle.rdf_terms.specs.Characters.{is_pn_chars_base, is_pn_chars_u, is_pn_chars}
use Rattle.rdf_terms.specs.Cuts.{before, after}
use Rattle.rdf_terms.specs.Iri.{is_forbidden, has_forbidden, has_scheme, is_scheme, is_iri}
use Rattle.rdf_terms.proofs.CallerLemmas.{written_allowed, writes_allowed}
use Rattle.rdf_tokens.specs.Characters.{is_local_escape}
use Rattle.rdf_tokens.specs.Forms.{IsLocal}
use Rattle.rdf_tokens.specs.Values.{local_value, IsLocalUnit, unit_value}
use Rattle.rdf_tokens.proofs.ValueNames.{parted_local, local_value_is, apart, part_or_colon, pc_not_backslash}

-- ---- characters that may stand in an IRI

-- a character of Unicode that is not forbidden
abbrev Good : ℕ → Type 0
Good c = (scalar c ≡ true) × (is_forbidden c ≡ false)

allowed_from : (c : ℕ) → 33 ≤ c → c ≢ 60 → c ≢ 62 → c ≢ 34 → c ≢ 123 → c ≢ 125 → c ≢ 124 → c ≢ 94 → c ≢ 96 → c ≢ 92 → is_forbidden c ≡ false
allowed_from c low a b d e f g h i j =
    rw (le-ltb c 33 low, ne_eqb c 60 a, ne_eqb c 62 b, ne_eqb c 34 d, ne_eqb c 123 e, ne_eqb c 125 f, ne_eqb c 124 g, ne_eqb c 94 h, ne_eqb c 96 i, ne_eqb c 92 j) refl

scalar_low : (c : ℕ) → c < 55296 → scalar c ≡ true
scalar_low c small = rw (lt-ltb c 55296 small) refl

scalar_high : (c : ℕ) → 57344 ≤ c → c < 1114112 → scalar c ≡ true
scalar_high c large small = rw (le-ltb c 55296 (omega arith), le-leb 57344 c large, lt-ltb c 1114112 small) refl

from_range : (lo hi c : ℕ) → is_in_range lo hi c ≡ true → (lo ≤ c) × (c ≤ hi)
from_range lo hi c h = let p = and_parts (leb lo c) (leb c hi) h in (leb-true lo c p.0, leb-true c hi p.1)

good_above : (c : ℕ) → 126 ≤ c → c < 55296 → Good c
good_above c large small =
    (scalar_low c small, allowed_from c (omega arith) (λ e. omega arith) (λ e. omega arith) (λ e. omega arith) (λ e. omega arith) (λ e. omega arith) (λ e. omega arith) (λ e. omega arith) (λ e. omega arith) (λ e. omega arith))

high : (lo hi c : ℕ) → 126 ≤ lo → hi < 55296 → is_in_range lo hi c ≡ true → Good c
high lo hi c a b h = let r = from_range lo hi c h in good_above c (omega (arith, r.0)) (omega (arith, r.1))

very_high : (lo hi c : ℕ) → 57344 ≤ lo → hi < 1114112 → is_in_range lo hi c ≡ true → Good c
very_high lo hi c a b h =
    let r = from_range lo hi c h in
    let low : 57344 ≤ c = omega (arith, r.0) in
    let small : c < 1114112 = omega (arith, r.1) in
    (scalar_high c low small, allowed_from c (omega arith) (λ e. omega arith) (λ e. omega arith) (λ e. omega arith) (λ e. omega arith) (λ e. omega arith) (λ e. omega arith) (λ e. omega arith) (λ e. omega arith) (λ e. omega arith))

good_within : (lo hi c : ℕ) → 33 ≤ lo → hi < 126 → (hi < 34) ⊎ (34 < lo) → (hi < 60) ⊎ (62 < lo) → (hi < 92) ⊎ (96 < lo) → hi < 123 → lo ≤ c → c ≤ hi → Good c
good_within lo hi c a b d e f g l r =
    let low : 33 ≤ c = omega arith in
    let p : c ≢ 34 = λ is. elim d [ inl x ↦ omega arith | inr x ↦ omega arith ] in
    let q : (c < 60) ⊎ (62 < c) = elim e [ inl x ↦ inl (omega arith) | inr x ↦ inr (omega arith) ] in
    let t : (c < 92) ⊎ (96 < c) = elim f [ inl x ↦ inl (omega arith) | inr x ↦ inr (omega arith) ] in (
      scalar_low c (omega arith),
      allowed_from c low (λ is. elim q [ inl x ↦ omega arith | inr x ↦ omega arith ]) (λ is. elim q [ inl x ↦ omega arith | inr x ↦ omega arith ]) p
          (λ is. omega arith) (λ is. omega arith) (λ is. omega arith)
          (λ is. elim t [ inl x ↦ omega arith | inr x ↦ omega arith ]) (λ is. elim t [ inl x ↦ omega arith | inr x ↦ omega arith ]) (λ is. elim t [ inl x ↦ omega arith | inr x ↦ omega arith ]),
    )

upper_between : (c : ℕ) → 65 ≤ c → c ≤ 90 → Good c
upper_between c l r = good_within 65 90 c (omega arith) (omega arith) (inr (omega arith)) (inr (omega arith)) (inl (omega arith)) (omega arith) l r

lower_between : (c : ℕ) → 97 ≤ c → c ≤ 122 → Good c
lower_between c l r = good_within 97 122 c (omega arith) (omega arith) (inr (omega arith)) (inr (omega arith)) (inr (omega arith)) (omega arith) l r

digit_between : (c : ℕ) → 48 ≤ c → c ≤ 57 → Good c
digit_between c l r = good_within 48 57 c (omega arith) (omega arith) (inr (omega arith)) (inl (omega arith)) (inl (omega arith)) (omega arith) l r

upper : (c : ℕ) → is_in_range 65 90 c ≡ true → Good c
upper c h = let r = from_range 65 90 c h in upper_between c r.0 r.1

lower : (c : ℕ) → is_in_range 97 122 c ≡ true → Good c
lower c h = let r = from_range 97 122 c h in lower_between c r.0 r.1

digit : (c : ℕ) → is_in_range 48 57 c ≡ true → Good c
digit c h = let r = from_range 48 57 c h in digit_between c r.0 r.1

at_number : (c d : ℕ) → Good d → eqb c d ≡ true → Good c
at_number c d good is = subst Good (sym (eqb-true c d is)) good

pick : {P : Type 0} (a b : Bool) → (a || b) ≡ true → (b ≡ true → P) → (a ≡ true → P) → P
pick a b h second first = elim (or_cases a b h) [ inl x ↦ first x | inr y ↦ second y ]

base_good : (c : ℕ) → is_pn_chars_base c ≡ true → Good c
unfolding is_pn_chars_base
base_good c = λ h13. pick _ _ h13 (λ r. very_high 65536 983039 c (omega arith) (omega arith) r) (λ h12. pick _ _ h12 (λ r. very_high 65008 65533 c (omega arith) (omega arith) r) (λ h11. pick _ _ h11 (λ r. very_high 63744 64975 c (omega arith) (omega arith) r) (λ h10. pick _ _ h10 (λ r. high 12289 55295 c (omega arith) (omega arith) r) (λ h9. pick _ _ h9 (λ r. high 11264 12271 c (omega arith) (omega arith) r) (λ h8. pick _ _ h8 (λ r. high 8304 8591 c (omega arith) (omega arith) r) (λ h7. pick _ _ h7 (λ r. high 8204 8205 c (omega arith) (omega arith) r) (λ h6. pick _ _ h6 (λ r. high 895 8191 c (omega arith) (omega arith) r) (λ h5. pick _ _ h5 (λ r. high 880 893 c (omega arith) (omega arith) r) (λ h4. pick _ _ h4 (λ r. high 248 767 c (omega arith) (omega arith) r) (λ h3. pick _ _ h3 (λ r. high 216 246 c (omega arith) (omega arith) r) (λ h2. pick _ _ h2 (λ r. high 192 214 c (omega arith) (omega arith) r) (λ h1. pick _ _ h1 (λ r. lower c r) (λ h0. upper c h0)))))))))))))

u_good : (c : ℕ) → is_pn_chars_u c ≡ true → Good c
unfolding is_pn_chars_u
u_good c = λ h. pick _ _ h (λ r. at_number c 95 (refl, refl) r) (λ r. base_good c r)

part_good : (c : ℕ) → is_pn_chars c ≡ true → Good c
unfolding is_pn_chars
part_good c = λ h5. pick _ _ h5 (λ r. high 8255 8256 c (omega arith) (omega arith) r) (λ h4. pick _ _ h4 (λ r. high 768 879 c (omega arith) (omega arith) r) (λ h3. pick _ _ h3 (λ r. at_number c 183 (refl, refl) r) (λ h2. pick _ _ h2 (λ r. digit c r) (λ h1. pick _ _ h1 (λ r. at_number c 45 (refl, refl) r) (λ h0. u_good c h0)))))

escape_good : (c : ℕ) → is_local_escape c ≡ true → Good c
unfolding is_local_escape
escape_good c = λ h19. pick _ _ h19 (λ r. at_number c 37 (refl, refl) r) (λ h18. pick _ _ h18 (λ r. at_number c 64 (refl, refl) r) (λ h17. pick _ _ h17 (λ r. at_number c 35 (refl, refl) r) (λ h16. pick _ _ h16 (λ r. at_number c 63 (refl, refl) r) (λ h15. pick _ _ h15 (λ r. at_number c 47 (refl, refl) r) (λ h14. pick _ _ h14 (λ r. at_number c 61 (refl, refl) r) (λ h13. pick _ _ h13 (λ r. at_number c 59 (refl, refl) r) (λ h12. pick _ _ h12 (λ r. at_number c 44 (refl, refl) r) (λ h11. pick _ _ h11 (λ r. at_number c 43 (refl, refl) r) (λ h10. pick _ _ h10 (λ r. at_number c 42 (refl, refl) r) (λ h9. pick _ _ h9 (λ r. at_number c 41 (refl, refl) r) (λ h8. pick _ _ h8 (λ r. at_number c 40 (refl, refl) r) (λ h7. pick _ _ h7 (λ r. at_number c 39 (refl, refl) r) (λ h6. pick _ _ h6 (λ r. at_number c 38 (refl, refl) r) (λ h5. pick _ _ h5 (λ r. at_number c 36 (refl, refl) r) (λ h4. pick _ _ h4 (λ r. at_number c 33 (refl, refl) r) (λ h3. pick _ _ h3 (λ r. at_number c 45 (refl, refl) r) (λ h2. pick _ _ h2 (λ r. at_number c 46 (refl, refl) r) (λ h1. pick _ _ h1 (λ r. at_number c 126 (refl, refl) r) (λ h0. at_number c 95 (refl, refl) h0)))))))))))))))))))

no_digit : {P : Type 0} → 36 < 16 → P
no_digit h = absurd (omega arith)

digit_good : (c : ℕ) → digit_value c < 16 → Good c
digit_good c small =
    elim (cases_Bool (ltb c 48)) [
      | inl a ↦ no_digit (rw a at small)
      | inr a ↦
          let s = rw a at small in
          elim (cases_Bool (ltb c 58)) [
            | inl b ↦ digit_between c (ltb-false c 48 a) (omega (arith, ltb-true c 58 b))
            | inr b ↦
                let t = rw b at s in
                elim (cases_Bool (ltb c 65)) [
                  | inl d ↦ no_digit (rw d at t)
                  | inr d ↦
                      let u = rw d at t in
                      elim (cases_Bool (ltb c 91)) [
                        | inl e ↦ upper_between c (ltb-false c 65 d) (omega (arith, ltb-true c 91 e))
                        | inr e ↦
                            let v = rw e at u in
                            elim (cases_Bool (ltb c 97)) [
                              | inl f ↦ no_digit (rw f at v)
                              | inr f ↦
                                  let w = rw f at v in
                                  elim (cases_Bool (ltb c 123)) [
                                    | inl g ↦ lower_between c (ltb-false c 97 f) (omega (arith, ltb-true c 123 g))
                                    | inr g ↦ no_digit (rw g at w)
                                  ]
                            ]
                      ]
                ]
          ]
    ]

part_or_colon_good : (c : ℕ) → part_or_colon c ≡ true → Good c
part_or_colon_good c h = pick (is_pn_chars c) (c == 58) h (λ r. at_number c 58 (refl, refl) r) (λ r. part_good c r)

-- ---- the value of a local part

AllGood-append : (xs ys : List ℕ) → AllByRecursion Good xs → AllByRecursion Good ys → AllByRecursion Good (xs ++ ys)
AllGood-append [] ys p q = q
AllGood-append (x ∷ xs) ys p q = (p.0, AllGood-append xs ys p.1 q)

unit_good : (unit : List ℕ) → IsLocalUnit unit → AllByRecursion Good (unit_value unit)
unit_good unit (inl dot) = subst (λ (t : List ℕ). AllByRecursion Good (unit_value t)) (sym dot) ((refl, refl), tt)
unit_good unit (inr (inl h)) =
    let a = apart part_or_colon h.0 92 h.2 pc_not_backslash in
    let same : unit_value unit ≡ h.0 ∷ [] = ap unit_value h.1 ∙ rw a refl in
    subst (AllByRecursion Good) (sym same) (part_or_colon_good h.0 h.2, tt)
unit_good unit (inr (inr (inl h))) =
    subst (λ (t : List ℕ). AllByRecursion Good (unit_value t)) (sym h.2) ((refl, refl), (digit_good h.0 h.3, (digit_good h.1 h.4, tt)))
unit_good unit (inr (inr (inr h))) =
    subst (λ (t : List ℕ). AllByRecursion Good (unit_value t)) (sym h.1) (escape_good h.0 h.2, tt)

units_good : (ps : List (List ℕ)) → AllByRecursion IsLocalUnit ps → AllByRecursion Good (flat_map unit_value ps)
units_good [] h = tt
units_good (p ∷ ps) h = AllGood-append (unit_value p) (flat_map unit_value ps) (unit_good p h.0) (units_good ps h.1)

good_scalars : (cs : List ℕ) → AllByRecursion Good cs → scalars cs ≡ true
good_scalars [] h = refl
good_scalars (c ∷ cs) h = rw h.0.0 (good_scalars cs h.1)

good_allowed : (cs : List ℕ) → AllByRecursion Good cs → NonePass is_forbidden cs
good_allowed [] h = tt
good_allowed (c ∷ cs) h = (h.0.1, good_allowed cs h.1)

-- no character of it is forbidden in IRIs
pub local_allowed : (name : List ℕ) → IsLocal name → has_forbidden (local_value name) ≡ false
local_allowed name l =
    let m = parted_local name l in
    let cs : List ℕ = flat_map unit_value m.0 in
    let value : encode_utf8_all cs ≡ local_value name = local_value_is name cs (m.0, m.1, m.2, refl) in
    ap has_forbidden (sym value) ∙ written_allowed cs cs (writes_allowed cs (good_allowed cs (units_good m.0 m.2)))

-- ---- behind an IRI

scheme_after : (xs ys : List ℕ) → is_some (after 58 xs) ≡ true → (is_some (after 58 (xs ++ ys)) ≡ true) × (before 58 (xs ++ ys) ≡ before 58 xs)
scheme_after [] ys h = absurd (true≢false (sym h))
scheme_after (x ∷ xs) ys h =
    elim (cases_Bool (eqb x 58)) [
      | inl is ↦ (rw is refl, rw is refl)
      | inr not ↦
          let r = scheme_after xs ys (rw not at h) in
          (rw not r.0, rw not (ap (λ (t : List ℕ). x ∷ t) r.1))
    ]

pub has_scheme_after : (iri more : List ℕ) → has_scheme iri ≡ true → has_scheme (iri ++ more) ≡ true
has_scheme_after iri more h =
    let p = and_parts (is_some (after 58 iri)) (is_scheme (before 58 iri)) h in
    let s = scheme_after iri more p.0 in
    and_from (is_some (after 58 (iri ++ more))) (is_scheme (before 58 (iri ++ more))) s.0 (ap is_scheme s.1 ∙ p.1)

pub pname_iri : (iri name : List ℕ) → IsTrue (is_iri iri) → IsLocal name → IsTrue (is_iri (iri ++ local_value name))
pname_iri iri name h l =
    let p = and_parts (is_utf8 iri) (has_scheme iri && not (has_forbidden iri)) h in
    let q = and_parts (has_scheme iri) (not (has_forbidden iri)) p.1 in
    let m = parted_local name l in
    let cs : List ℕ = flat_map unit_value m.0 in
    let good = units_good m.0 m.2 in
    let value : encode_utf8_all cs ≡ local_value name = local_value_is name cs (m.0, m.1, m.2, refl) in
    let utf8 : IsUtf8 (iri ++ encode_utf8_all cs) = IsUtf8-append iri (encode_utf8_all cs) (IsUtf8-from_is_utf8 iri p.0) (cs, (good_scalars cs good, refl)) in
    let allowed : has_forbidden (iri ++ encode_utf8_all cs) ≡ false =
    list_any-append is_forbidden iri (encode_utf8_all cs)
    ∙ or_from (has_forbidden iri) (has_forbidden (encode_utf8_all cs)) (not-true (has_forbidden iri) q.1) (written_allowed cs cs (writes_allowed cs (good_allowed cs good))) in
    let whole : is_iri (iri ++ encode_utf8_all cs) ≡ true =
    and_from (is_utf8 (iri ++ encode_utf8_all cs)) (has_scheme (iri ++ encode_utf8_all cs) && not (has_forbidden (iri ++ encode_utf8_all cs))) (is_utf8-from_IsUtf8 (iri ++ encode_utf8_all cs) utf8)
    (and_from (has_scheme (iri ++ encode_utf8_all cs)) (not (has_forbidden (iri ++ encode_utf8_all cs))) (has_scheme_after iri (encode_utf8_all cs) q.0) (not_from_false (has_forbidden (iri ++ encode_utf8_all cs)) allowed)) in
    ap (λ (t : List ℕ). is_iri (iri ++ t)) (sym value) ∙ whole
