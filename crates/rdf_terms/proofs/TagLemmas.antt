-- A language tag keeps its form when its capitals are lowered, and has no capital then.
use Rattle.std.proofs.Common.{◌≡◌, ◌∙◌, ap, refl, sym, ℕ, Bool, true, false, cond, not, ◌&&◌, ◌==◌, List, [], ◌∷◌, map, nat_lt, nat_eq, length, suc, arith, Some}
use Rattle.std.proofs.lemmas.Bool.Decides.{nat_tests}
use Rattle.std.specs.Char.{is_ascii_alphabetic, is_ascii_alphanumeric, is_ascii_uppercase, to_ascii_lowercase}
use Rattle.std.specs.List.{list_all, list_any, slice_split, onto_first, take_while}
use Rattle.std.specs.Str.{str_to_ascii_lowercase}
use Rattle.std.proofs.lemmas.List.Sums.{take_while-cons}
use Rattle.std.proofs.lemmas.Bool.{and_from}
use Rattle.std.specs.Str.{is_utf8}
use Rattle.std.specs.Cmp.Lexicographic.{pointwise}
use Rattle.rdf_terms.specs.Iri.{is_iri}
use Rattle.rdf_terms.specs.Literal.{is_subtag, is_tag, is_literal, lang_string}

abbrev is_dash : ℕ → Bool
is_dash c = c == 45

lower_dash : (c : ℕ) → is_dash (to_ascii_lowercase c) ≡ is_dash c
lower_dash c = grind (arith, nat_tests)

lower_alphanumeric : (c : ℕ) → is_ascii_alphanumeric (to_ascii_lowercase c) ≡ is_ascii_alphanumeric c
lower_alphanumeric c = grind (arith, nat_tests)

lower_alphabetic : (c : ℕ) → is_ascii_alphabetic (to_ascii_lowercase c) ≡ is_ascii_alphabetic c
lower_alphabetic c = grind (arith, nat_tests)

lower_uppercase : (c : ℕ) → is_ascii_uppercase (to_ascii_lowercase c) ≡ false
lower_uppercase c = grind (arith, nat_tests)

module _ {X Y : Type 0} (f : X → Y) (p : Y → Bool) (q : X → Bool) (same : (x : X) → p (f x) ≡ q x) where
  list_all_same : (xs : List X) → list_all p (map f xs) ≡ list_all q xs
  list_all_same [] = refl
  list_all_same (x ∷ xs) = λ i. same x i && list_all_same xs i

  onto : (x : X) (parts : List (List X)) → onto_first (f x) (map (map f) parts) ≡ map (map f) (onto_first x parts)
  onto x [] = refl
  onto x (part ∷ parts) = refl

  slice_split-map : (xs : List X) → slice_split p (map f xs) ≡ map (map f) (slice_split q xs)
  slice_split-map [] = refl
  slice_split-map (x ∷ xs) = (λ i. cond (same x i) ([] ∷ slice_split-map xs i) (onto_first (f x) (slice_split-map xs i))) ∙ by (q x)
    where
      by : (b : Bool) → cond b ([] ∷ map (map f) (slice_split q xs)) (onto_first (f x) (map (map f) (slice_split q xs))) ≡ map (map f) (cond b ([] ∷ slice_split q xs) (onto_first x (slice_split q xs)))
      by true = refl
      by false = onto x (slice_split q xs)

  take_while-map : (xs : List X) → take_while p (map f xs) ≡ map f (take_while q xs)
  take_while-map [] = refl
  take_while-map (x ∷ xs) = take_while-cons p (f x) (map f xs) ∙ (λ i. cond (same x i) (f x ∷ take_while-map xs i) []) ∙ by (q x) ∙ ap (map f) (sym (take_while-cons q x xs))
    where
      by : (b : Bool) → cond b (f x ∷ map f (take_while q xs)) [] ≡ map f (cond b (x ∷ take_while q xs) [])
      by true = refl
      by false = refl

length-map : (xs : List ℕ) → length (str_to_ascii_lowercase xs) ≡ length xs
length-map [] = refl
length-map (x ∷ xs) = ap suc (length-map xs)

lower_subtag : (xs : List ℕ) → is_subtag (str_to_ascii_lowercase xs) ≡ is_subtag xs
lower_subtag xs = λ i. nat_lt 0 (length-map xs i) && list_all_same to_ascii_lowercase is_ascii_alphanumeric is_ascii_alphanumeric lower_alphanumeric xs i

pub is_tag-lower : (tag : List ℕ) → is_tag (str_to_ascii_lowercase tag) ≡ is_tag tag
is_tag-lower tag =
    let subtags = ap (list_all is_subtag) (slice_split-map to_ascii_lowercase is_dash is_dash lower_dash tag)
    ∙ list_all_same (map to_ascii_lowercase) is_subtag is_subtag lower_subtag (slice_split is_dash tag) in
    let letters = ap (list_all is_ascii_alphabetic) (take_while-map to_ascii_lowercase (λ c. not (is_dash c)) (λ c. not (is_dash c)) (λ c. ap not (lower_dash c)) tag)
    ∙ list_all_same to_ascii_lowercase is_ascii_alphabetic is_ascii_alphabetic lower_alphabetic (take_while (λ c. not (is_dash c)) tag) in
    λ i. subtags i && letters i

pub no_capital : (tag : List ℕ) → list_any is_ascii_uppercase (str_to_ascii_lowercase tag) ≡ false
no_capital [] = refl
no_capital (c ∷ cs) = grind (arith, lower_uppercase c, no_capital cs)

-- the parts of a literal with a lowered tag
pub is_literal-tagged : (lexical datatype tag lowered : List ℕ) → is_utf8 lexical ≡ true → is_iri datatype ≡ true → datatype ≡ lang_string → is_tag tag ≡ true → lowered ≡ str_to_ascii_lowercase tag
    → is_literal (record { lexical = lexical; datatype = datatype; tag = Some lowered }) ≡ true
is_literal-tagged lexical datatype tag lowered text iri lang form lower =
    let same : pointwise nat_eq datatype lang_string ≡ true = ap (λ d. pointwise nat_eq d lang_string) lang in
    let formed : is_tag lowered ≡ true = ap is_tag lower ∙ is_tag-lower tag ∙ form in
    let low : not (list_any is_ascii_uppercase lowered) ≡ true = ap (λ t. not (list_any is_ascii_uppercase t)) lower ∙ ap not (no_capital tag) in
    and_from _ _ text (and_from _ _ iri (and_from (pointwise nat_eq datatype lang_string && is_tag lowered) (not (list_any is_ascii_uppercase lowered)) (and_from (pointwise nat_eq datatype lang_string) (is_tag lowered) same formed) low))
