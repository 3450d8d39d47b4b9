-- A tag has the form that literals ask for, and no other text has.
use Rattle.std.proofs.Common.{◌≡◌, ◌<◌, ℕ, zero, suc, Bool, true, false, cond, ltb, not, nat_lt, ◌==◌, List, [], ◌∷◌, ◌++◌, length, refl, sym, ap, subst, ◌∙◌, inl, inr, arith, ◌||◌}
use Rattle.std.specs.List.{AllByRecursion, list_all, slice_split, onto_first, take_while}
use Rattle.std.specs.Char.{is_ascii_alphabetic, is_ascii_alphanumeric}
use Rattle.std.specs.Str.{encode_utf8_all, IsAscii}
use Rattle.std.proofs.lemmas.Bool.{cases_Bool, eqb-true, lt-ltb, ltb-true, and_from, and_parts, true≢false}
use Rattle.std.proofs.lemmas.Bool.Decides.{nat_tests}
use Rattle.std.proofs.lemmas.List.{append-nil}
use Rattle.std.proofs.lemmas.List.Sums.{take_while-cons}
use Rattle.std.proofs.lemmas.Str.{encode_ascii}
use Rattle.rdf_terms.specs.Literal.{is_subtag, is_tag}
use Rattle.rdf_terms.specs.Tags.{IsGroups, IsTagName}
use Rattle.rdf_terms.proofs.SkipLemmas.{AllPass}

abbrev is_dash : ℕ → Bool
is_dash c = c == 45

alphabetic_alphanumeric : (c : ℕ) → is_ascii_alphabetic c ≡ true → is_ascii_alphanumeric c ≡ true
alphabetic_alphanumeric c h = grind (arith, nat_tests)

alphanumeric_no_dash : (c : ℕ) → is_ascii_alphanumeric c ≡ true → is_dash c ≡ false
alphanumeric_no_dash c h =
    elim (cases_Bool (is_dash c)) [
      | inl is ↦ absurd (true≢false (sym h ∙ ap is_ascii_alphanumeric (eqb-true c 45 is)))
      | inr not_dash ↦ not_dash
    ]

all_alphanumeric : (cs : List ℕ) → AllPass is_ascii_alphabetic cs → AllPass is_ascii_alphanumeric cs
all_alphanumeric [] h = tt
all_alphanumeric (c ∷ cs) h = (alphabetic_alphanumeric c h.0, all_alphanumeric cs h.1)

list_all-from : (p : ℕ → Bool) (cs : List ℕ) → AllPass p cs → list_all p cs ≡ true
list_all-from p [] h = refl
list_all-from p (c ∷ cs) h = and_from (p c) (list_all p cs) h.0 (list_all-from p cs h.1)

-- ---- its characters

abbrev pub is_tag_part : ℕ → Bool
is_tag_part c = is_ascii_alphanumeric c || (c == 45)

alphabetic_part : (c : ℕ) → is_ascii_alphabetic c ≡ true → is_tag_part c ≡ true
alphabetic_part c h = grind (arith, nat_tests)

alphanumeric_part : (c : ℕ) → is_ascii_alphanumeric c ≡ true → is_tag_part c ≡ true
alphanumeric_part c h = grind (arith, nat_tests)

all_parts : (p : ℕ → Bool) → ((c : ℕ) → p c ≡ true → is_tag_part c ≡ true) → (cs : List ℕ) → AllPass p cs → AllPass is_tag_part cs
all_parts p f [] h = tt
all_parts p f (c ∷ cs) h = (f c h.0, all_parts p f cs h.1)

joined : (xs ys : List ℕ) → AllPass is_tag_part xs → AllPass is_tag_part ys → AllPass is_tag_part (xs ++ ys)
joined [] ys a b = b
joined (x ∷ xs) ys a b = (a.0, joined xs ys a.1 b)

group_parts : (groups : List (List ℕ)) (slice : List ℕ) → IsGroups slice groups → AllPass is_tag_part slice
group_parts [] slice h = subst (AllPass is_tag_part) (sym h) tt
group_parts (group ∷ groups) slice h =
    subst (AllPass is_tag_part) (sym h.1) (refl, joined group h.0 (all_parts is_ascii_alphanumeric alphanumeric_part group h.3) (group_parts groups h.0 h.4))

name_parts : (name : List ℕ) → IsTagName name → AllPass is_tag_part name
name_parts name h =
    subst (AllPass is_tag_part) (sym h.4)
    (alphabetic_part h.0 h.5, joined h.1 h.2 (all_parts is_ascii_alphabetic alphabetic_part h.1 h.6) (group_parts h.3 h.2 h.7))

part_low : (c : ℕ) → is_tag_part c ≡ true → c < 128
part_low c h = grind (arith, nat_tests)

each : (P : ℕ → Type 0) → ((c : ℕ) → is_tag_part c ≡ true → P c) → (cs : List ℕ) → AllPass is_tag_part cs → AllByRecursion P cs
each P f [] h = tt
each P f (c ∷ cs) h = (f c h.0, each P f cs h.1)

pub each_part : (P : ℕ → Type 0) → ((c : ℕ) → is_tag_part c ≡ true → P c) → (name : List ℕ) → IsTagName name → AllByRecursion P name
each_part P f name h = each P f name (name_parts name h)

-- ---- the bytes of a tag are its characters

abbrev pub AllLow : List ℕ → Type 0
AllLow cs = AllByRecursion (λ c. c < 128) cs

pub tag_low : (name : List ℕ) → IsTagName name → AllLow name
tag_low name h = each_part (λ c. c < 128) part_low name h

pub encodes_low : (cs : List ℕ) → AllLow cs → encode_utf8_all cs ≡ cs
encodes_low [] h = refl
encodes_low (c ∷ cs) h = rw (encode_ascii c h.0) (ap (λ (t : List ℕ). c ∷ t) (encodes_low cs h.1))

pub ascii_from : (bs : List ℕ) → AllLow bs → IsAscii bs
ascii_from [] h i = omega arith
ascii_from (b ∷ bs) h zero = h.0
ascii_from (b ∷ bs) h (suc i) = ascii_from bs h.1 i

-- ---- its groups

split_none : (part : List ℕ) → AllPass is_ascii_alphanumeric part → slice_split is_dash part ≡ part ∷ []
split_none [] h = refl
split_none (c ∷ cs) h = rw (alphanumeric_no_dash c h.0, split_none cs h.1) refl

split_at : (part rest : List ℕ) → AllPass is_ascii_alphanumeric part → slice_split is_dash (part ++ 45 ∷ rest) ≡ part ∷ slice_split is_dash rest
split_at [] rest h = refl
split_at (c ∷ cs) rest h = rw (alphanumeric_no_dash c h.0, split_at cs rest h.1) refl

split_groups : (groups : List (List ℕ)) (part slice : List ℕ) → AllPass is_ascii_alphanumeric part → IsGroups slice groups
    → slice_split is_dash (part ++ slice) ≡ part ∷ groups
split_groups [] part slice p h = ap (λ (t : List ℕ). slice_split is_dash (part ++ t)) h ∙ ap (slice_split is_dash) (append-nil part) ∙ split_none part p
split_groups (group ∷ groups) part slice p h =
    ap (λ (t : List ℕ). slice_split is_dash (part ++ t)) h.1 ∙ split_at part (group ++ h.0) p
    ∙ ap (λ (t : List (List ℕ)). part ∷ t) (split_groups groups group h.0 h.3 h.4)

subtag : (part : List ℕ) → 0 < length part → AllPass is_ascii_alphanumeric part → is_subtag part ≡ true
subtag part some h = and_from (ltb 0 (length part)) (list_all is_ascii_alphanumeric part) (lt-ltb 0 (length part) some) (list_all-from is_ascii_alphanumeric part h)

subtags : (groups : List (List ℕ)) (slice : List ℕ) → IsGroups slice groups → list_all is_subtag groups ≡ true
subtags [] slice h = refl
subtags (group ∷ groups) slice h = and_from (is_subtag group) (list_all is_subtag groups) (subtag group h.2 h.3) (subtags groups h.0 h.4)

-- ---- its letters

stops_here : (groups : List (List ℕ)) (slice : List ℕ) → IsGroups slice groups → take_while (λ c. not (is_dash c)) slice ≡ []
stops_here [] slice h = rw h refl
stops_here (group ∷ groups) slice h = rw h.1 (take_while-cons (λ c. not (is_dash c)) 45 (group ++ h.0))

letters_only : (letters slice : List ℕ) (groups : List (List ℕ)) → AllPass is_ascii_alphabetic letters → IsGroups slice groups
    → list_all is_ascii_alphabetic (take_while (λ c. not (is_dash c)) (letters ++ slice)) ≡ true
letters_only [] slice groups p h = ap (list_all is_ascii_alphabetic) (stops_here groups slice h)
letters_only (c ∷ cs) slice groups p h =
    let goes : not (is_dash c) ≡ true = ap not (alphanumeric_no_dash c (alphabetic_alphanumeric c p.0)) in
    rw (take_while-cons (λ d. not (is_dash d)) c (cs ++ slice), goes)
    (and_from (is_ascii_alphabetic c) (list_all is_ascii_alphabetic (take_while (λ d. not (is_dash d)) (cs ++ slice))) p.0 (letters_only cs slice groups p.1 h))

pub tag_form : (name : List ℕ) → IsTagName name → is_tag (encode_utf8_all name) ≡ true
tag_form name h =
    let first : List ℕ = h.0 ∷ h.1 in
    let all : AllPass is_ascii_alphabetic first = (h.5, h.6) in
    let every : AllPass is_ascii_alphanumeric first = all_alphanumeric first all in
    let parts : list_all is_subtag (slice_split is_dash (first ++ h.2)) ≡ true =
    ap (list_all is_subtag) (split_groups h.3 first h.2 every h.7)
    ∙ and_from (is_subtag first) (list_all is_subtag h.3) (subtag first (omega arith) every) (subtags h.3 h.2 h.7) in
    ap is_tag (encodes_low name (tag_low name h) ∙ h.4)
    ∙ and_from (list_all is_subtag (slice_split is_dash (first ++ h.2))) (list_all is_ascii_alphabetic (take_while (λ c. not (is_dash c)) (first ++ h.2)))
    parts (letters_only first h.2 h.3 all h.7)

-- ---- and back

list_all-to : (p : ℕ → Bool) (cs : List ℕ) → list_all p cs ≡ true → AllPass p cs
list_all-to p [] h = tt
list_all-to p (c ∷ cs) h = let both = and_parts (p c) (list_all p cs) h in (both.0, list_all-to p cs both.1)

-- the first part of a tag, and the groups behind it
record Parts (text : List ℕ) : Type 0 where
  first : List ℕ
  more : List (List ℕ)
  others : List ℕ
  is_split : slice_split is_dash text ≡ first ∷ more
  joins : text ≡ first ++ others
  groups : list_all is_subtag more ≡ true → IsGroups others more
  front : take_while (λ c. not (is_dash c)) text ≡ first

behind_dash : (c : ℕ) (cs : List ℕ) → is_dash c ≡ true → Parts cs → Parts (c ∷ cs)
behind_dash c cs h p = record {
  first = [];
  more = p.first ∷ p.more;
  others = 45 ∷ cs;
  is_split = ap (λ b. cond b ([] ∷ slice_split is_dash cs) (onto_first c (slice_split is_dash cs))) h ∙ ap (λ (t : List (List ℕ)). [] ∷ t) p.is_split;
  joins = ap (λ (x : ℕ). x ∷ cs) (eqb-true c 45 h);
  groups = λ all.
      let both = and_parts (is_subtag p.first) (list_all is_subtag p.more) all in
      let own = and_parts (nat_lt 0 (length p.first)) (list_all is_ascii_alphanumeric p.first) both.0 in
      (p.others, ap (λ (t : List ℕ). 45 ∷ t) p.joins, ltb-true 0 (length p.first) own.0, list_all-to is_ascii_alphanumeric p.first own.1, p.groups both.1);
  front = take_while-cons (λ d. not (is_dash d)) c cs ∙ ap (λ b. cond (not b) (c ∷ take_while (λ d. not (is_dash d)) cs) []) h;
}

behind_other : (c : ℕ) (cs : List ℕ) → is_dash c ≡ false → Parts cs → Parts (c ∷ cs)
behind_other c cs h p = record {
  first = c ∷ p.first;
  more = p.more;
  others = p.others;
  is_split = ap (λ b. cond b ([] ∷ slice_split is_dash cs) (onto_first c (slice_split is_dash cs))) h ∙ ap (onto_first c) p.is_split;
  joins = ap (λ (t : List ℕ). c ∷ t) p.joins;
  groups = p.groups;
  front = take_while-cons (λ d. not (is_dash d)) c cs ∙ ap (λ b. cond (not b) (c ∷ take_while (λ d. not (is_dash d)) cs) []) h ∙ ap (λ (t : List ℕ). c ∷ t) p.front;
}

parts_of : (text : List ℕ) → Parts text
parts_of [] = record { first = []; more = []; others = []; is_split = refl; joins = refl; groups = λ all. refl; front = refl }
parts_of (c ∷ cs) = elim (cases_Bool (is_dash c)) [
  | inl dash ↦ behind_dash c cs dash (parts_of cs)
  | inr other ↦ behind_other c cs other (parts_of cs)
]

named : (name first others : List ℕ) (groups : List (List ℕ)) → name ≡ first ++ others → 0 < length first → AllPass is_ascii_alphabetic first → IsGroups others groups → IsTagName name
named name [] others groups e some all g = absurd (omega (arith, some))
named name (c ∷ letters) others groups e some all g = (c, letters, others, groups, e, all.0, all.1, g)

pub tag_name : (tag : List ℕ) → is_tag tag ≡ true → IsTagName tag
tag_name tag h =
    let p = parts_of tag in
    let both = and_parts (list_all is_subtag (slice_split is_dash tag)) (list_all is_ascii_alphabetic (take_while (λ c. not (is_dash c)) tag)) h in
    let subtags = and_parts (is_subtag p.first) (list_all is_subtag p.more) (ap (list_all is_subtag) (sym p.is_split) ∙ both.0) in
    let own = and_parts (nat_lt 0 (length p.first)) (list_all is_ascii_alphanumeric p.first) subtags.0 in
    let letters = list_all-to is_ascii_alphabetic p.first (ap (list_all is_ascii_alphabetic) (sym p.front) ∙ both.1) in
    named tag p.first p.others p.more p.joins (ltb-true 0 (length p.first) own.0) letters (p.groups subtags.1)
