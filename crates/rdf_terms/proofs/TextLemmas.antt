-- Two different terms never have the same text: a quoted text can be read back, and so can what follows it.
use Rattle.std.proofs.Common.{◌≡◌, ◌∙◌, ap, refl, sym, ℕ, ◌<◌, ◌^◌, Bool, true, false, ◌==◌, if◌then◌else◌, List, [], ◌∷◌, ◌++◌, drop, get_or, codes, decimal, nat_eq, Option, None, Some, append_assoc, true≢false}
use Rattle.std.proofs.lemmas.Bool.{ltb-true}
use Rattle.std.proofs.lemmas.Bool.Decides.{Decides-eqb}
use Rattle.std.proofs.lemmas.List.{append_cancel_left, append_cancel_right}
use Rattle.std.proofs.lemmas.Fmt.{decimal_is_IsNumeral}
use Rattle.std.specs.Cmp.{first_so, second_so}
use Rattle.std.specs.Cmp.Lexicographic.{pointwise, bytes_decides}
use Rattle.std.specs.List.{flat_map}
use Rattle.std.specs.Str.Parse.{digits_value}
use Rattle.rdf_terms.specs.Literal.{LiteralParts, xsd_string, lang_string, tag_fits}
use Rattle.rdf_terms.specs.TermText.{escaped, datatype_text, suffix_text, literal_text, TextsDiffer}
use Rattle.rdf_terms.specs.declared.term.Term.TheVariants.{Blank, Iri, Literal}

head : List ℕ → ℕ
head bs = get_or bs 0 0

abbrev decoded : ℕ → ℕ
decoded d = if d == 110 then 10 else if d == 114 then 13 else d

-- the byte that an escaped text begins with, and what follows it
abbrev first : List ℕ → ℕ
first [] = 0
first (c ∷ cs) = if c == 92 then decoded (get_or cs 0 0) else c

abbrev rest : List ℕ → List ℕ
rest [] = []
rest (c ∷ cs) = if c == 92 then drop 1 cs else cs

record Reads (c : ℕ) (z text : List ℕ) : Type 0 where
  byte : first text ≡ c
  after : rest text ≡ z
  no_quote : (get_or text 0 0 == 34) ≡ false

if_cases : (P : List ℕ → Type 0) (b : Bool) (x y : List ℕ) → (b ≡ true → P x) → (b ≡ false → P y) → P (if b then x else y)
if_cases P true x y f g = f refl
if_cases P false x y f g = g refl

reads : (c : ℕ) (z : List ℕ) → Reads c z (escaped c ++ z)
reads c z =
    let P : List ℕ → Type 0 = λ w. Reads c z (w ++ z) in
    if_cases P (c == 34) _ _ (λ h. record { byte = sym ((Decides-eqb c 34).0 h); after = refl; no_quote = refl })
    (λ not_quote. if_cases P (c == 92) _ _ (λ h. record { byte = sym ((Decides-eqb c 92).0 h); after = refl; no_quote = refl })
    (λ plain. if_cases P (c == 10) _ _ (λ h. record { byte = sym ((Decides-eqb c 10).0 h); after = refl; no_quote = refl })
    (λ _. if_cases P (c == 13) _ _ (λ h. record { byte = sym ((Decides-eqb c 13).0 h); after = refl; no_quote = refl })
    (λ _. record {
      byte = ap (λ b. if b then decoded (get_or z 0 0) else c) plain;
      after = ap (λ b. if b then drop 1 z else z) plain;
      no_quote = not_quote;
    }))))

-- a quoted text ends at its quote
split : (xs ys r s : List ℕ) → flat_map escaped xs ++ 34 ∷ r ≡ flat_map escaped ys ++ 34 ∷ s → (xs ≡ ys) × (r ≡ s)
split [] [] r s e = (refl, ap rest e)
split [] (y ∷ ys) r s e =
    absurd (true≢false (ap (λ l. get_or l 0 0 == 34) (e ∙ append_assoc (escaped y) (flat_map escaped ys) (34 ∷ s)) ∙ (reads y (flat_map escaped ys ++ 34 ∷ s)).no_quote))
split (x ∷ xs) [] r s e =
    absurd (true≢false (ap (λ l. get_or l 0 0 == 34) (sym e ∙ append_assoc (escaped x) (flat_map escaped xs) (34 ∷ r)) ∙ (reads x (flat_map escaped xs ++ 34 ∷ r)).no_quote))
split (x ∷ xs) (y ∷ ys) r s e =
    let at_x = reads x (flat_map escaped xs ++ 34 ∷ r) in
    let at_y = reads y (flat_map escaped ys ++ 34 ∷ s) in
    let whole = sym (append_assoc (escaped x) (flat_map escaped xs) (34 ∷ r)) ∙ e ∙ append_assoc (escaped y) (flat_map escaped ys) (34 ∷ s) in
    let more = split xs ys r s (sym at_x.after ∙ ap rest whole ∙ at_y.after) in
    let same : x ≡ y = sym at_x.byte ∙ ap first whole ∙ at_y.byte in
    ((λ i. same i ∷ more.0 i), more.1)

datatypes : (d e : List ℕ) → datatype_text d ≡ datatype_text e → d ≡ e
datatypes d e h = by (pointwise nat_eq d xsd_string) (pointwise nat_eq e xsd_string) refl refl h
  where
    by : (a b : Bool) → pointwise nat_eq d xsd_string ≡ a → pointwise nat_eq e xsd_string ≡ b → (if a then [] else codes "^^<" ++ d ++ codes ">") ≡ (if b then [] else codes "^^<" ++ e ++ codes ">") → d ≡ e
    by true true p q h = (bytes_decides d xsd_string).0 p ∙ sym ((bytes_decides e xsd_string).0 q)
    by true false p q h = cc
    by false true p q h = cc
    by false false p q h = append_cancel_right d e (codes ">") (append_cancel_left (codes "^^<") (d ++ codes ">") (e ++ codes ">") (sym (append_assoc (codes "^^<") d (codes ">")) ∙ h ∙ append_assoc (codes "^^<") e (codes ">")))

tag_text : (tag d : List ℕ) → codes "@" ++ tag ≡ datatype_text d → ⊥
tag_text tag d h = by (pointwise nat_eq d xsd_string) h
  where
    by : (b : Bool) → codes "@" ++ tag ≡ (if b then [] else codes "^^<" ++ d ++ codes ">") → ⊥
    by true h = cc
    by false h = absurd (true≢false (ap (λ l. get_or l 0 0 == 64) h))

suffixes : (d e : List ℕ) (s t : Option (List ℕ)) → tag_fits d s ≡ true → tag_fits e t ≡ true → suffix_text d s ≡ suffix_text e t → (d ≡ e) × (s ≡ t)
suffixes d e None None p q h = (datatypes d e h, refl)
suffixes d e None (Some t) p q h = absurd (tag_text t d (sym h))
suffixes d e (Some s) None p q h = absurd (tag_text s e h)
suffixes d e (Some s) (Some t) p q h = (lang d s p ∙ sym (lang e t q), ap Some (append_cancel_left (codes "@") s t h))
  where
    lang : (d s : List ℕ) → tag_fits d (Some s) ≡ true → d ≡ lang_string
    lang d s p = (bytes_decides d lang_string).0 (first_so _ _ (first_so _ _ p))

literals : (l m : LiteralParts) → tag_fits l.datatype l.tag ≡ true → tag_fits m.datatype m.tag ≡ true → literal_text l ≡ literal_text m → l ≡ m
literals l m p q h =
    let parts = split l.lexical m.lexical (suffix_text l.datatype l.tag) (suffix_text m.datatype m.tag) (quoted l m h) in
    let more = suffixes l.datatype m.datatype l.tag m.tag p q parts.1 in
    λ i. record { lexical = parts.0 i; datatype = more.0 i; tag = more.1 i }
  where
    text : (l : LiteralParts) → literal_text l ≡ 34 ∷ (flat_map escaped l.lexical ++ 34 ∷ suffix_text l.datatype l.tag)
    text l = append_assoc (34 ∷ flat_map escaped l.lexical) (codes "\"") (suffix_text l.datatype l.tag)

    quoted : (l m : LiteralParts) → literal_text l ≡ literal_text m → flat_map escaped l.lexical ++ 34 ∷ suffix_text l.datatype l.tag ≡ flat_map escaped m.lexical ++ 34 ∷ suffix_text m.datatype m.tag
    quoted l m h = ap (drop 1) (sym (text l) ∙ h ∙ text m)

blanks : (m n : ℕ) → m < 2 ^ 64 → n < 2 ^ 64 → decimal m ≡ decimal n → m ≡ n
blanks m n p q e = sym (decimal_is_IsNumeral m p).1 ∙ ap (digits_value 10) e ∙ (decimal_is_IsNumeral n q).1

pub texts_differ : TextsDiffer
texts_differ (Blank m) (Blank n) p q e = ap Blank (blanks m n (ltb-true m 18446744073709551616 p) (ltb-true n 18446744073709551616 q) (append_cancel_left (codes "_:b") _ _ e))
texts_differ (Blank m) (Iri i) p q e = absurd (true≢false (ap (λ l. get_or l 0 0 == 95) e))
texts_differ (Blank m) (Literal l) p q e = absurd (true≢false (ap (λ l. get_or l 0 0 == 95) e))
texts_differ (Iri i) (Blank n) p q e = absurd (true≢false (ap (λ l. get_or l 0 0 == 60) e))
texts_differ (Iri i) (Iri j) p q e = ap Iri (append_cancel_right i j (codes ">") (ap (drop 1) e))
texts_differ (Iri i) (Literal l) p q e = absurd (true≢false (ap (λ l. get_or l 0 0 == 60) e))
texts_differ (Literal l) (Blank n) p q e = absurd (true≢false (ap (λ l. get_or l 0 0 == 34) e))
texts_differ (Literal l) (Iri i) p q e = absurd (true≢false (ap (λ l. get_or l 0 0 == 34) e))
texts_differ (Literal l) (Literal m) p q e = ap Literal (literals l m (second_so _ _ (second_so _ _ p)) (second_so _ _ (second_so _ _ q)) e)
