-- No tab and no line feed stands inside a field, and a field tells its value.
use Rattle.std.proofs.Common.{◌≡◌, ◌∙◌, ap, refl, sym, subst, inl, inr, ℕ, arith, Bool, true, false, ◌==◌, ◌||◌, if◌then◌else◌, nat_eq, List, [], ◌∷◌, ◌++◌, codes, decimal, append_assoc, append-nil, true≢false, Option, Some, None}
use Rattle.std.specs.Cmp.Lexicographic.{pointwise}
use Rattle.std.specs.List.{flat_map, list_any, AllByRecursion}
use Rattle.std.proofs.lemmas.Bool.{cases_Bool, or_parts, or_from, or_cases, eqb-true, ltb-true}
use Rattle.std.proofs.lemmas.Bool.Decides.{nat_tests}
use Rattle.std.proofs.lemmas.List.Concat.{flat_map-append}
use Rattle.std.proofs.lemmas.List.Folds.{list_any-append}
use Rattle.rdf_terms.specs.Iri.{is_forbidden, has_forbidden, is_iri}
use Rattle.rdf_terms.specs.Literal.{xsd_string, tag_fits}
use Rattle.rdf_terms.specs.Term.{is_literal_term, is_term}
use Rattle.rdf_terms.specs.TermText.{escaped, suffix_text, term_text}
use Rattle.rdf_terms.specs.declared.term.Term.{Term}
use Rattle.rdf_terms.specs.declared.term.Term.TheVariants.{Blank, Iri, Literal}
use Rattle.rdf_terms.proofs.CallerLemmas.{AllPass, tag_name, is_tag_part, each_part, texts_differ, iri_allowed, is_digit, decimal_digits, tag_parts, literal_parts, by_escape}
use Rattle.sparql_results.specs.ResultsText.{field_text, without_tab}
use Rattle.sparql_results.specs.RowLaws.{is_value}
use Rattle.sparql_results.proofs.TabLemmas.{no_tabs}

-- what ends a field
abbrev pub is_end : ℕ → Bool
is_end c = (c == 9) || (c == 10)

abbrev pub NoEnd : List ℕ → Type 0
NoEnd bs = list_any is_end bs ≡ false

-- ---- reading `\t` back as a tab; the flag says whether a backslash came before

abbrev unescaped : ℕ → List ℕ
unescaped c = if c == 116 then 9 ∷ [] else 92 ∷ c ∷ []

abbrev read_back : Bool → List ℕ → List ℕ
read_back true [] = []
read_back false [] = []
read_back true (c ∷ cs) = unescaped c ++ read_back false cs
read_back false (c ∷ cs) = if c == 92 then read_back true cs else c ∷ read_back false cs

-- what a field says of a text that is written into it, whatever comes behind it
record Tells (text : List ℕ) : Type 0 where
  closed : NoEnd (flat_map without_tab text)
  back : (z : List ℕ) → read_back false (flat_map without_tab text ++ z) ≡ text ++ read_back false z

tells_nil : Tells []
tells_nil = record { closed = refl; back = λ z. refl }

tells_both : (xs ys : List ℕ) → Tells xs → Tells ys → Tells (xs ++ ys)
tells_both xs ys a b = record {
  closed = ap (list_any is_end) (flat_map-append without_tab xs ys)
      ∙ list_any-append is_end (flat_map without_tab xs) (flat_map without_tab ys)
      ∙ or_from _ _ a.closed b.closed;
  back = λ z.
      ap (λ t. read_back false (t ++ z)) (flat_map-append without_tab xs ys)
      ∙ ap (read_back false) (append_assoc (flat_map without_tab xs) (flat_map without_tab ys) z)
      ∙ a.back (flat_map without_tab ys ++ z)
      ∙ ap (λ t. xs ++ t) (b.back z)
      ∙ sym (append_assoc xs ys (read_back false z));
}

-- ---- texts without tabs, line feeds and backslashes

abbrev is_special : ℕ → Bool
is_special c = (c == 9) || ((c == 10) || (c == 92))

plain_one : (c : ℕ) → (c == 9) ≡ false → (c == 10) ≡ false → (c == 92) ≡ false → Tells (c ∷ [])
plain_one c t f b = record {
  closed = ap (λ h. list_any is_end ((if h then codes "\\t" else c ∷ []) ++ [])) t ∙ or_from (is_end c) false (or_from (c == 9) (c == 10) t f) refl;
  back = λ z. ap (λ h. read_back false (((if h then codes "\\t" else c ∷ []) ++ []) ++ z)) t ∙ ap (λ h. if h then read_back true z else c ∷ read_back false z) b;
}

plain : (bs : List ℕ) → list_any is_special bs ≡ false → Tells bs
plain [] h = tells_nil
plain (c ∷ cs) h =
    let parts = or_parts (is_special c) (list_any is_special cs) h in
    let tab = or_parts (c == 9) ((c == 10) || (c == 92)) parts.0 in
    let others = or_parts (c == 10) (c == 92) tab.1 in
    tells_both (c ∷ []) cs (plain_one c tab.0 others.0 others.1) (plain cs parts.1)

from_each : (bs : List ℕ) → AllByRecursion (λ b. is_special b ≡ false) bs → list_any is_special bs ≡ false
from_each [] h = refl
from_each (b ∷ bs) h = or_from (is_special b) (list_any is_special bs) h.0 (from_each bs h.1)

digit_plain : (c : ℕ) → is_digit c ≡ true → is_special c ≡ false
digit_plain c h = grind (arith, nat_tests)

digits_plain : (cs : List ℕ) → AllPass is_digit cs → AllByRecursion (λ b. is_special b ≡ false) cs
digits_plain [] h = tt
digits_plain (c ∷ cs) h = (digit_plain c h.0, digits_plain cs h.1)

part_plain : (c : ℕ) → is_tag_part c ≡ true → is_special c ≡ false
part_plain c h = grind (arith, nat_tests)

tab_forbidden : is_forbidden 9 ≡ true
tab_forbidden = refl

feed_forbidden : is_forbidden 10 ≡ true
feed_forbidden = refl

backslash_forbidden : is_forbidden 92 ≡ true
backslash_forbidden = refl

special_forbidden : (c : ℕ) → is_special c ≡ true → is_forbidden c ≡ true
special_forbidden c h = elim (or_cases (c == 9) ((c == 10) || (c == 92)) h) [
  | inl tab ↦ ap is_forbidden (eqb-true c 9 tab) ∙ tab_forbidden
  | inr other ↦ elim (or_cases (c == 10) (c == 92) other) [
    | inl feed ↦ ap is_forbidden (eqb-true c 10 feed) ∙ feed_forbidden
    | inr backslash ↦ ap is_forbidden (eqb-true c 92 backslash) ∙ backslash_forbidden
  ]
]

allowed_plain : (bs : List ℕ) → has_forbidden bs ≡ false → list_any is_special bs ≡ false
allowed_plain [] h = refl
allowed_plain (b ∷ bs) h =
    let parts = or_parts (is_forbidden b) (has_forbidden bs) h in
    let here : is_special b ≡ false =
    elim (cases_Bool (is_special b)) [
      | inl special ↦ absurd (true≢false (sym (special_forbidden b special) ∙ parts.0))
      | inr other ↦ other
    ] in
    or_from (is_special b) (list_any is_special bs) here (allowed_plain bs parts.1)

-- ---- terms

escape_tells : (c : ℕ) → Tells (escaped c)
escape_tells = by_escape (λ c unit. Tells unit) (record { closed = refl; back = λ z. refl }) (record { closed = refl; back = λ z. refl })
    (record { closed = refl; back = λ z. refl }) (record { closed = refl; back = λ z. refl }) other
  where
    other : (c : ℕ) → (c == 34) ≡ false → (c == 92) ≡ false → (c == 10) ≡ false → (c == 13) ≡ false → Tells (c ∷ [])
    other c q b f r = elim (cases_Bool (c == 9)) [
      | inl tab ↦ subst (λ n. Tells (n ∷ [])) (sym (eqb-true c 9 tab)) (record { closed = refl; back = λ z. refl })
      | inr t ↦ plain_one c t f b
    ]

escapes_tell : (text : List ℕ) → Tells (flat_map escaped text)
escapes_tell [] = tells_nil
escapes_tell (c ∷ cs) = tells_both (escaped c) (flat_map escaped cs) (escape_tells c) (escapes_tell cs)

iri_tells : (iri : List ℕ) → is_iri iri ≡ true → Tells (60 ∷ (iri ++ 62 ∷ []))
iri_tells iri h =
    tells_both (60 ∷ []) (iri ++ 62 ∷ []) (plain (60 ∷ []) refl)
    (tells_both iri (62 ∷ []) (plain iri (allowed_plain iri (iri_allowed iri h))) (plain (62 ∷ []) refl))

suffix_tells : (datatype : List ℕ) (tag : Option (List ℕ)) → is_iri datatype ≡ true → tag_fits datatype tag ≡ true → Tells (suffix_text datatype tag)
suffix_tells datatype (Some tag) h k =
    tells_both (64 ∷ []) tag (plain (64 ∷ []) refl)
    (plain tag (from_each tag (each_part (λ c. is_special c ≡ false) part_plain tag (tag_name tag (tag_parts datatype tag k).1))))
suffix_tells datatype None h k = by (pointwise nat_eq datatype xsd_string)
  where
    by : (b : Bool) → Tells (if b then [] else codes "^^<" ++ datatype ++ codes ">")
    by true = tells_nil
    by false = tells_both (94 ∷ 94 ∷ []) (60 ∷ (datatype ++ 62 ∷ [])) (plain (94 ∷ 94 ∷ []) refl) (iri_tells datatype h)

term_tells : (t : Term) → is_term t ≡ true → Tells (term_text t)
term_tells (Blank n) h =
    tells_both (95 ∷ 58 ∷ 98 ∷ []) (decimal n) (plain (95 ∷ 58 ∷ 98 ∷ []) refl)
    (plain (decimal n) (from_each (decimal n) (digits_plain (decimal n) (decimal_digits n (ltb-true n 18446744073709551616 h)))))
term_tells (Iri iri) h = iri_tells iri h
term_tells (Literal l) h =
    let p = literal_parts l h in
    tells_both (34 ∷ (flat_map escaped l.lexical ++ 34 ∷ [])) (suffix_text l.datatype l.tag)
    (tells_both (34 ∷ []) (flat_map escaped l.lexical ++ 34 ∷ []) (plain (34 ∷ []) refl)
    (tells_both (flat_map escaped l.lexical) (34 ∷ []) (escapes_tell l.lexical) (plain (34 ∷ []) refl)))
    (suffix_tells l.datatype l.tag p.1 p.2)

-- ---- texts in which nothing is written otherwise

pub stays_both : (xs ys : List ℕ) → flat_map without_tab xs ≡ xs → flat_map without_tab ys ≡ ys → flat_map without_tab (xs ++ ys) ≡ xs ++ ys
stays_both xs ys a b = flat_map-append without_tab xs ys ∙ (λ i. a i ++ b i)

untabbed : (bs : List ℕ) → list_any is_special bs ≡ false → list_any (λ c. c == 9) bs ≡ false
untabbed [] h = refl
untabbed (b ∷ bs) h =
    let parts = or_parts (is_special b) (list_any is_special bs) h in
    or_from (b == 9) (list_any (λ c. c == 9) bs) (or_parts (b == 9) ((b == 10) || (b == 92)) parts.0).0 (untabbed bs parts.1)

plain_stays : (bs : List ℕ) → list_any is_special bs ≡ false → flat_map without_tab bs ≡ bs
plain_stays bs h = no_tabs bs (untabbed bs h)

-- no tab stands behind the quotes of a literal
pub suffix_stays : (datatype : List ℕ) (tag : Option (List ℕ)) → is_iri datatype ≡ true → tag_fits datatype tag ≡ true →
    flat_map without_tab (suffix_text datatype tag) ≡ suffix_text datatype tag
suffix_stays datatype (Some tag) h k =
    stays_both (64 ∷ []) tag refl
    (plain_stays tag (from_each tag (each_part (λ c. is_special c ≡ false) part_plain tag (tag_name tag (tag_parts datatype tag k).1))))
suffix_stays datatype None h k = by (pointwise nat_eq datatype xsd_string)
  where
    by : (b : Bool) → flat_map without_tab (if b then [] else codes "^^<" ++ datatype ++ codes ">") ≡ (if b then [] else codes "^^<" ++ datatype ++ codes ">")
    by true = refl
    by false =
        stays_both (94 ∷ 94 ∷ 60 ∷ []) (datatype ++ 62 ∷ []) refl
        (stays_both datatype (62 ∷ []) (plain_stays datatype (allowed_plain datatype (iri_allowed datatype h))) refl)

-- no tab stands in a blank node's label, or in an IRI
pub term_stays : (t : Term) → is_term t ≡ true → is_literal_term t ≡ false → flat_map without_tab (term_text t) ≡ term_text t
term_stays (Blank n) h other =
    stays_both (95 ∷ 58 ∷ 98 ∷ []) (decimal n) refl
    (plain_stays (decimal n) (from_each (decimal n) (digits_plain (decimal n) (decimal_digits n (ltb-true n 18446744073709551616 h)))))
term_stays (Iri iri) h other =
    stays_both (60 ∷ []) (iri ++ 62 ∷ []) refl (stays_both iri (62 ∷ []) (plain_stays iri (allowed_plain iri (iri_allowed iri h))) refl)
term_stays (Literal l) h literal = absurd (true≢false literal)

-- ---- fields

pub field_closed : (value : Option Term) → is_value value ≡ true → NoEnd (field_text value)
field_closed None h = refl
field_closed (Some t) h = (term_tells t h).closed

term_back : (t : Term) → is_term t ≡ true → read_back false (field_text (Some t)) ≡ term_text t
term_back t h =
    ap (read_back false) (sym (append-nil (flat_map without_tab (term_text t)))) ∙ (term_tells t h).back [] ∙ append-nil (term_text t)

-- a term's text isn't empty
some_text : {A : Type 0} (t : Term) → term_text t ≡ [] → A
some_text (Blank n) e = cc
some_text (Iri iri) e = cc
some_text (Literal l) e = cc

pub fields_differ : (x y : Option Term) → is_value x ≡ true → is_value y ≡ true → field_text x ≡ field_text y → x ≡ y
fields_differ None None h k e = refl
fields_differ None (Some t) h k e = some_text t (sym (term_back t k) ∙ ap (read_back false) (sym e))
fields_differ (Some s) None h k e = some_text s (sym (term_back s h) ∙ ap (read_back false) e)
fields_differ (Some s) (Some t) h k e = ap Some (texts_differ s t h k (sym (term_back s h) ∙ ap (read_back false) e ∙ term_back t k))
