-- The parts of prefixed names, and what local parts stand for.
use Rattle.std.proofs.Common.{◌≡◌, ◌<◌, ◌⊎◌, ℕ, Bool, true, false, eqb, not, ◌||◌, List, [], ◌∷◌, ◌++◌, refl, sym, ap, subst, ◌∙◌, inl, inr, append_assoc, arith}
use Rattle.std.proofs.lemmas.Bool.{cases_Bool, ne_eqb, or_cases, or_left, or_right, true≢false}
use Rattle.std.specs.Prelude.{◌==◌, filter, flat_map}
use Rattle.std.specs.Char.{digit_value, encode_utf8}
use Rattle.std.specs.Int.{is_in_range}
use Rattle.std.specs.List.{AllByRecursion, concat}
use Rattle.std.specs.Str.{chars, encode_utf8_all, IsUtf8, NonePass, NoCharPasses}
use Rattle.std.proofs.lemmas.List.{append-nil}
use Rattle.std.proofs.lemmas.Str.{encodes-chars}
use Rattle.rdf_terms.specs.Characters.{is_pn_chars_base, is_pn_chars_u, is_pn_chars}
use Rattle.rdf_terms.specs.Dotted.{IsDotted}
use Rattle.rdf_tokens.specs.Characters.{is_name_start, is_local_escape}
use Rattle.rdf_tokens.specs.Forms.{IsNamePart, IsLocalFirst, IsLocalPart, IsPrefix, IsLocal}
use Rattle.rdf_tokens.specs.Values.{prefix_part, local_part, local_value, IsLocalUnit, unit_value, LocalMeans}
use Rattle.rdf_tokens.proofs.ValuePlaces.{Colonless, before_colon, after_colon, none_pass}

-- ---- no colon stands in a prefix

-- a character of a class that a number doesn't have isn't that number
pub apart : (class : ℕ → Bool) (c d : ℕ) → class c ≡ true → class d ≡ false → eqb c d ≡ false
apart class c d is not = ne_eqb c d (λ e. true≢false (sym is ∙ ap class e ∙ not))

base_not_colon : is_pn_chars_base 58 ≡ false
unfolding is_pn_chars_base
base_not_colon = refl

part_not_colon : is_pn_chars 58 ≡ false
unfolding is_pn_chars is_pn_chars_u is_pn_chars_base
part_not_colon = refl

none_append : (test : ℕ → Bool) (xs ys : List ℕ) → NonePass test xs → NonePass test ys → NonePass test (xs ++ ys)
none_append test [] ys p q = q
none_append test (x ∷ xs) ys p q = (p.0, none_append test xs ys p.1 q)

dots_colonless : (dots : List ℕ) → AllByRecursion (λ c. c ≡ 46) dots → Colonless dots
dots_colonless [] h = tt
dots_colonless (d ∷ dots) h = (ap (λ (x : ℕ). eqb x 58) h.0, dots_colonless dots h.1)

name_colonless : (name : List ℕ) (units : List (List ℕ)) → IsDotted IsNamePart name units → Colonless name
name_colonless name [] h = subst Colonless (sym h) tt
name_colonless name (unit ∷ units) h =
    let one : Colonless unit = subst Colonless (sym h.4.1) (apart is_pn_chars h.4.0 58 h.4.2 part_not_colon, tt) in
    subst Colonless (sym h.2)
    (none_append (λ d. d == 58) h.0 (unit ++ h.1) (dots_colonless h.0 h.3) (none_append (λ d. d == 58) unit h.1 one (name_colonless h.1 units h.5)))

prefix_colonless : (prefix : List ℕ) → IsPrefix prefix → Colonless prefix
prefix_colonless [] h = tt
prefix_colonless (c ∷ name) h = (apart is_pn_chars_base c 58 h.0 base_not_colon, name_colonless name h.1.0 h.1.1)

pub prefix_part_is : (prefix name : List ℕ) → IsPrefix prefix → prefix_part (prefix ++ 58 ∷ name) ≡ prefix
unfolding prefix_part
prefix_part_is prefix name h = before_colon prefix name (prefix_colonless prefix h)

pub local_part_is : (prefix name : List ℕ) → IsPrefix prefix → local_part (prefix ++ 58 ∷ name) ≡ name
unfolding local_part
local_part_is prefix name h = rw (after_colon prefix name (prefix_colonless prefix h)) refl

-- ---- the units of a local part

dot_units : (dots : List ℕ) → AllByRecursion (λ c. c ≡ 46) dots → (ps : List (List ℕ)) × (dots ≡ concat ps) × AllByRecursion IsLocalUnit ps
dot_units [] h = ([], refl, tt)
dot_units (d ∷ dots) h =
    let r = dot_units dots h.1 in
    ((d ∷ []) ∷ r.0, ap (λ (t : List ℕ). d ∷ t) r.1, (inl (ap (λ (x : ℕ). x ∷ []) h.0), r.2))

concat_append : (xs ys : List (List ℕ)) → concat (xs ++ ys) ≡ concat xs ++ concat ys
concat_append [] ys = refl
concat_append (x ∷ xs) ys = ap (λ (t : List ℕ). x ++ t) (concat_append xs ys) ∙ sym (append_assoc x (concat xs) (concat ys))

all_append : (P : List ℕ → Type 0) (xs ys : List (List ℕ)) → AllByRecursion P xs → AllByRecursion P ys → AllByRecursion P (xs ++ ys)
all_append P [] ys p q = q
all_append P (x ∷ xs) ys p q = (p.0, all_append P xs ys p.1 q)

dotted_units : (name : List ℕ) (units : List (List ℕ)) → IsDotted IsLocalPart name units → (ps : List (List ℕ)) × (name ≡ concat ps) × AllByRecursion IsLocalUnit ps
dotted_units name [] h = ([], h, tt)
dotted_units name (unit ∷ units) h =
    let d = dot_units h.0 h.3 in
    let r = dotted_units h.1 units h.5 in (
      d.0 ++ unit ∷ r.0,
      h.2 ∙ ap (λ (t : List ℕ). t ++ (unit ++ h.1)) d.1 ∙ ap (λ (t : List ℕ). concat d.0 ++ (unit ++ t)) r.1 ∙ sym (concat_append d.0 (unit ∷ r.0)),
      all_append IsLocalUnit d.0 (unit ∷ r.0) d.2 (inr h.4, r.2),
    )

start_is_part : (c : ℕ) → is_name_start c ≡ true → is_pn_chars c ≡ true
unfolding is_name_start is_pn_chars
start_is_part c h =
    elim (or_cases (is_pn_chars_u c) (is_in_range 48 57 c) h) [
      | inl u ↦ rw u refl
      | inr digit ↦
          let a = or_right (is_pn_chars_u c || (c == 45)) (is_in_range 48 57 c) digit in
          or_left _ _ (or_left _ _ (or_left _ _ a))
    ]

first_is_part : (unit : List ℕ) → IsLocalFirst unit → IsLocalPart unit
first_is_part unit (inl h) =
    inl (
      h.0,
      h.1,
      elim (or_cases (is_name_start h.0) (h.0 == 58) h.2) [
        | inl start ↦ or_left (is_pn_chars h.0) (h.0 == 58) (start_is_part h.0 start)
        | inr colon ↦ or_right (is_pn_chars h.0) (h.0 == 58) colon
      ],
    )
first_is_part unit (inr h) = inr h

pub parted_local : (name : List ℕ) → IsLocal name → (ps : List (List ℕ)) × (name ≡ concat ps) × AllByRecursion IsLocalUnit ps
parted_local name (inl e) = ([], e, tt)
parted_local name (inr h) =
    let r = dotted_units h.1 h.2 h.5 in
    (h.0 ∷ r.0, h.3 ∙ ap (λ (t : List ℕ). h.0 ++ t) r.1, (inr (first_is_part h.0 h.4), r.2))

pub local_meaning : (name : List ℕ) → IsLocal name → (cs : List ℕ) × LocalMeans name cs
local_meaning name h = let p = parted_local name h in (flat_map unit_value p.0, (p.0, p.1, p.2, refl))

-- ---- what they stand for

abbrev pub kept : ℕ → Bool
kept c = not (c == 92)

filter_append : (xs ys : List ℕ) → filter kept (xs ++ ys) ≡ filter kept xs ++ filter kept ys
filter_append [] ys = refl
filter_append (x ∷ xs) ys =
    elim (cases x) [
      | inl is ↦ rw is (filter_append xs ys)
      | inr not ↦ rw not (ap (λ (t : List ℕ). x ∷ t) (filter_append xs ys))
    ]
  where
    cases : (x : ℕ) → (eqb x 92 ≡ true) ⊎ (eqb x 92 ≡ false)
    cases x = cases_Bool (eqb x 92)

part_not_backslash : is_pn_chars 92 ≡ false
unfolding is_pn_chars is_pn_chars_u is_pn_chars_base
part_not_backslash = refl

pub escape_not_backslash : is_local_escape 92 ≡ false
unfolding is_local_escape
escape_not_backslash = refl

abbrev pub part_or_colon : ℕ → Bool
part_or_colon c = is_pn_chars c || (c == 58)

pub pc_not_backslash : part_or_colon 92 ≡ false
unfolding is_pn_chars is_pn_chars_u is_pn_chars_base
pc_not_backslash = refl

pub digit_apart : (c : ℕ) → digit_value c < 16 → eqb c 92 ≡ false
digit_apart c small = ne_eqb c 92 (λ e. let wrong : digit_value 92 < 16 = subst (λ (x : ℕ). digit_value x < 16) e small in omega arith)

pub unit_kept : (unit : List ℕ) → IsLocalUnit unit → filter kept unit ≡ unit_value unit
unit_kept unit (inl dot) = ap (filter kept) dot ∙ sym (ap unit_value dot)
unit_kept unit (inr (inl h)) =
    let a = apart part_or_colon h.0 92 h.2 pc_not_backslash in
    let same : filter kept (h.0 ∷ []) ≡ unit_value (h.0 ∷ []) = rw a refl in
    ap (filter kept) h.1 ∙ same ∙ sym (ap unit_value h.1)
unit_kept unit (inr (inr (inl h))) =
    let a = digit_apart h.0 h.3 in
    let b = digit_apart h.1 h.4 in
    let same : filter kept (37 ∷ h.0 ∷ h.1 ∷ []) ≡ unit_value (37 ∷ h.0 ∷ h.1 ∷ []) = rw a (rw b refl) in
    ap (filter kept) h.2 ∙ same ∙ sym (ap unit_value h.2)
unit_kept unit (inr (inr (inr h))) =
    let a = apart is_local_escape h.0 92 h.2 escape_not_backslash in
    let same : filter kept (92 ∷ h.0 ∷ []) ≡ unit_value (92 ∷ h.0 ∷ []) = rw a refl in
    ap (filter kept) h.1 ∙ same ∙ sym (ap unit_value h.1)

units_kept : (ps : List (List ℕ)) → AllByRecursion IsLocalUnit ps → filter kept (concat ps) ≡ flat_map unit_value ps
units_kept [] h = refl
units_kept (p ∷ ps) h =
    filter_append p (concat ps) ∙ ap (λ (t : List ℕ). t ++ filter kept (concat ps)) (unit_kept p h.0) ∙ ap (λ (t : List ℕ). unit_value p ++ t) (units_kept ps h.1)

pub local_value_is : (name cs : List ℕ) → LocalMeans name cs → encode_utf8_all cs ≡ local_value name
unfolding local_value
local_value_is name cs h = ap encode_utf8_all (h.3 ∙ sym (units_kept h.0 h.2) ∙ sym (ap (filter kept) h.1))

-- ---- a local part with no backslash

filter_same : (cs : List ℕ) → NonePass (λ d. d == 92) cs → filter kept cs ≡ cs
filter_same [] none = refl
filter_same (c ∷ cs) none = rw none.0 (ap (λ (t : List ℕ). c ∷ t) (filter_same cs none.1))

pub local_plain : (text slice : List ℕ) → IsUtf8 text → chars text ≡ slice → NoCharPasses (λ d. d == 92) text → local_value slice ≡ text
unfolding local_value
local_plain text slice u e none =
    ap encode_utf8_all (ap (filter kept) (sym e) ∙ filter_same (chars text) (none_pass (λ d. d == 92) text u none)) ∙ encodes-chars text u

-- ---- a local part read from its front

-- what was written and what the rest gives is what the whole gives
abbrev pub Reads : List ℕ → List ℕ → List ℕ → Type 0
Reads whole done rest = done ++ encode_utf8_all (filter kept rest) ≡ encode_utf8_all (filter kept whole)

pub read_backslash : (whole done rest behind : List ℕ) (c : ℕ) → rest ≡ c ∷ behind → eqb c 92 ≡ true → Reads whole done rest → Reads whole done behind
read_backslash whole done rest behind c e is h =
    let same : filter kept (c ∷ behind) ≡ filter kept behind = rw is refl in
    ap (λ (t : List ℕ). done ++ encode_utf8_all t) (sym same ∙ ap (filter kept) (sym e)) ∙ h

pub read_other : (whole done rest behind : List ℕ) (c : ℕ) → rest ≡ c ∷ behind → eqb c 92 ≡ false → Reads whole done rest → Reads whole (done ++ encode_utf8 c) behind
read_other whole done rest behind c e not h =
    let same : filter kept (c ∷ behind) ≡ c ∷ filter kept behind = rw not refl in
    append_assoc done (encode_utf8 c) (encode_utf8_all (filter kept behind)) ∙ ap (λ (t : List ℕ). done ++ encode_utf8_all t) (sym same ∙ ap (filter kept) (sym e)) ∙ h

pub read_start : (slice done rest : List ℕ) → done ≡ [] → rest ≡ slice → Reads slice done rest
read_start slice done rest d r =
    ap (λ (t : List ℕ). t ++ encode_utf8_all (filter kept rest)) d ∙ ap (λ (t : List ℕ). encode_utf8_all (filter kept t)) r

pub read_all : (slice done rest : List ℕ) → rest ≡ [] → Reads slice done rest → done ≡ local_value slice
unfolding local_value
read_all slice done rest e h = sym (append-nil done) ∙ ap (λ (t : List ℕ). done ++ encode_utf8_all (filter kept t)) (sym e) ∙ h
