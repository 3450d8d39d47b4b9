-- A field of comma-separated values is read back, and so are a record's fields and the records.
use Rattle.std.proofs.Common.{◌≡◌, ◌∙◌, ap, refl, sym, inl, inr, ℕ, suc, arith, Bool, true, false, ◌==◌, ◌||◌, ◌&&◌, if◌then◌else◌, List, [], ◌∷◌, ◌++◌, length, map, drop, get_or, codes, append_assoc, length-append, true≢false, Option}
use Rattle.std.specs.List.{flat_map, join_by, list_any}
use Rattle.std.proofs.lemmas.Bool.{cases_Bool, or_parts, eqb-true}
use Rattle.std.proofs.lemmas.Bool.Decides.{nat_tests}
use Rattle.std.proofs.lemmas.List.{map-id}
use Rattle.rdf_terms.specs.declared.term.Term.{Term}
use Rattle.sparql_results.specs.CsvText.{csv_field, csv_record, csv_row, doubled, is_special, needs_quotes, plain_text}
use Rattle.sparql_results.specs.FormLaws.{CsvTellsStrings, strings}

-- ---- fields

abbrev Read : Type 0
Read = List ℕ × List ℕ

abbrev onto : ℕ → Read → Read
onto c r = (c ∷ r.0, r.1)

abbrev choose : Bool → Read → Read → Read
choose b x y = if b then x else y

-- a field without quotes, and what follows it
abbrev read_plain : List ℕ → Read
read_plain [] = ([], [])
read_plain (c ∷ cs) = if is_special c then ([], c ∷ cs) else onto c (read_plain cs)

-- one behind its first quote; the flag says whether a quote came before
abbrev read_quoted : Bool → List ℕ → Read
read_quoted true [] = ([], [])
read_quoted false [] = ([], [])
read_quoted true (c ∷ cs) = if c == 34 then onto 34 (read_quoted false cs) else ([], c ∷ cs)
read_quoted false (c ∷ cs) = if c == 34 then read_quoted true cs else onto c (read_quoted false cs)

abbrev read_field : List ℕ → Read
read_field [] = ([], [])
read_field (c ∷ cs) = if c == 34 then read_quoted false cs else read_plain (c ∷ cs)

-- what ends a field
abbrev is_end : ℕ → Bool
is_end c = (c == 44) || (c == 13)

end_special : (c : ℕ) → is_end c ≡ true → is_special c ≡ true
end_special c h = grind (arith, nat_tests)

end_no_quote : (c : ℕ) → is_end c ≡ true → (c == 34) ≡ false
end_no_quote c h = grind (arith, nat_tests)

plain_no_quote : (c : ℕ) → is_special c ≡ false → (c == 34) ≡ false
plain_no_quote c h = grind (arith, nat_tests)

plain_read : (x : List ℕ) (c : ℕ) (r : List ℕ) → list_any is_special x ≡ false → is_special c ≡ true → read_plain (x ++ c ∷ r) ≡ (x, c ∷ r)
plain_read [] c r h e = ap (λ (b : Bool). choose b ([], c ∷ r) (onto c (read_plain r))) e
plain_read (y ∷ ys) c r h e =
    let parts = or_parts (is_special y) (list_any is_special ys) h in
    ap (λ (b : Bool). choose b ([], y ∷ (ys ++ c ∷ r)) (onto y (read_plain (ys ++ c ∷ r)))) parts.0 ∙ ap (onto y) (plain_read ys c r parts.1 e)

quoted_read : (x : List ℕ) (c : ℕ) (r : List ℕ) → (c == 34) ≡ false → read_quoted false (flat_map doubled x ++ 34 ∷ c ∷ r) ≡ (x, c ∷ r)
quoted_read [] c r e = ap (λ (b : Bool). choose b (onto 34 (read_quoted false r)) ([], c ∷ r)) e
quoted_read (y ∷ ys) c r e =
    let rest = flat_map doubled ys ++ 34 ∷ c ∷ r in
    let more = quoted_read ys c r e in
    let one : read_quoted false (doubled y ++ rest) ≡ onto y (read_quoted false rest) =
    elim (cases_Bool (y == 34)) [
      | inl quote ↦
          ap (λ (b : Bool). read_quoted false ((if b then codes "\"\"" else y ∷ []) ++ rest)) quote
          ∙ ap (λ (n : ℕ). onto n (read_quoted false rest)) (sym (eqb-true y 34 quote))
      | inr other ↦
          ap (λ (b : Bool). read_quoted false ((if b then codes "\"\"" else y ∷ []) ++ rest)) other
          ∙ ap (λ (b : Bool). choose b (read_quoted true rest) (onto y (read_quoted false rest))) other
    ] in
    ap (read_quoted false) (append_assoc (doubled y) (flat_map doubled ys) (34 ∷ c ∷ r)) ∙ one ∙ ap (onto y) more

plain_field : (x : List ℕ) (c : ℕ) (r : List ℕ) → list_any is_special x ≡ false → is_end c ≡ true → read_field (x ++ c ∷ r) ≡ (x, c ∷ r)
plain_field [] c r h e =
    ap (λ (b : Bool). choose b (read_quoted false r) (read_plain (c ∷ r))) (end_no_quote c e) ∙ plain_read [] c r h (end_special c e)
plain_field (y ∷ ys) c r h e =
    let parts = or_parts (is_special y) (list_any is_special ys) h in
    ap (λ (b : Bool). choose b (read_quoted false (ys ++ c ∷ r)) (read_plain (y ∷ (ys ++ c ∷ r)))) (plain_no_quote y parts.0)
    ∙ plain_read (y ∷ ys) c r h (end_special c e)

field_read : (is_alone : Bool) (x : List ℕ) (c : ℕ) (r : List ℕ) → is_end c ≡ true → read_field (csv_field is_alone x ++ c ∷ r) ≡ (x, c ∷ r)
field_read is_alone x c r e = elim (cases_Bool (needs_quotes is_alone x)) [
  | inl quoted ↦
      ap (λ (b : Bool). read_field ((if b then codes "\"" ++ flat_map doubled x ++ codes "\"" else x) ++ c ∷ r)) quoted
      ∙ ap (read_quoted false) (append_assoc (flat_map doubled x) (codes "\"") (c ∷ r)) ∙ quoted_read x c r (end_no_quote c e)
  | inr plain ↦
      ap (λ (b : Bool). read_field ((if b then codes "\"" ++ flat_map doubled x ++ codes "\"" else x) ++ c ∷ r)) plain
      ∙ plain_field x c r (or_parts (is_alone && (length x == 0)) (list_any is_special x) plain).1 e
]

-- ---- records, of whatever their fields are the texts of

-- what comes behind the first field
abbrev behind : {X : Type 0} → (X → List ℕ) → Bool → List X → List ℕ → List ℕ
behind text is_alone items r = flat_map (λ item. codes "," ++ csv_field is_alone (text item)) items ++ 13 ∷ 10 ∷ r

first_read : {X : Type 0} (text : X → List ℕ) (is_alone : Bool) (x : List ℕ) (items : List X) (r : List ℕ)
    → read_field (csv_field is_alone x ++ behind text is_alone items r) ≡ (x, behind text is_alone items r)
first_read text is_alone x [] r = field_read is_alone x 13 (10 ∷ r) refl
first_read text is_alone x (item ∷ items) r = field_read is_alone x 44 (drop 1 (behind text is_alone (item ∷ items) r)) refl

-- a field, and what comes behind it
opened : {X : Type 0} (text : X → List ℕ) (is_alone : Bool) (x : List ℕ) (items : List X) (r : List ℕ)
    → ((csv_field is_alone x ++ flat_map (λ item. codes "," ++ csv_field is_alone (text item)) items) ++ codes "\r\n") ++ r
    ≡ csv_field is_alone x ++ behind text is_alone items r
opened text is_alone x items r =
    let others = flat_map (λ item. codes "," ++ csv_field is_alone (text item)) items in
    append_assoc (csv_field is_alone x ++ others) (codes "\r\n") r ∙ append_assoc (csv_field is_alone x) others (codes "\r\n" ++ r)

next : {X : Type 0} (text : X → List ℕ) (is_alone : Bool) (item : X) (items : List X) (r : List ℕ)
    → behind text is_alone (item ∷ items) r ≡ 44 ∷ (csv_field is_alone (text item) ++ behind text is_alone items r)
next text is_alone item items r =
    ap (λ (t : List ℕ). 44 ∷ t) (append_assoc (csv_field is_alone (text item)) (flat_map (λ it. codes "," ++ csv_field is_alone (text it)) items) (13 ∷ 10 ∷ r))

module _ {X Y : Type 0} (text : X → List ℕ) (other : Y → List ℕ) (a b : Bool) where
  same_front : (x y : List ℕ) (xs : List X) (ys : List Y) (r s : List ℕ) → csv_field a x ++ behind text a xs r ≡ csv_field b y ++ behind other b ys s
      → (x ≡ y) × (behind text a xs r ≡ behind other b ys s)
  same_front x y xs ys r s e =
      let read : (x, behind text a xs r) ≡ (y, behind other b ys s) = sym (first_read text a x xs r) ∙ ap read_field e ∙ first_read other b y ys s in
      (ap (λ (p : Read). p.0) read, ap (λ (p : Read). p.1) read)

  same_behind : (xs : List X) (ys : List Y) (r s : List ℕ) → behind text a xs r ≡ behind other b ys s → (map text xs ≡ map other ys) × (r ≡ s)
  same_behind [] [] r s e = (refl, ap (drop 2) e)
  same_behind [] (y ∷ ys) r s e = absurd (true≢false (sym (ap (λ (l : List ℕ). get_or l 0 0 == 44) e)))
  same_behind (x ∷ xs) [] r s e = absurd (true≢false (ap (λ (l : List ℕ). get_or l 0 0 == 44) e))
  same_behind (x ∷ xs) (y ∷ ys) r s e =
      let front = same_front (text x) (other y) xs ys r s (ap (drop 1) (sym (next text a x xs r) ∙ e ∙ next other b y ys s)) in
      let more = same_behind xs ys r s front.1 in
      (λ i. front.0 i ∷ more.0 i, more.1)

not_one : (n : ℕ) → (suc (suc n) == 1) ≡ false
not_one n = grind (arith, nat_tests)

-- a record of fields isn't one of none
no_fields : {X : Type 0} (text : X → List ℕ) (x : X) (xs : List X) (r s : List ℕ) → csv_record text (x ∷ xs) ++ r ≡ 13 ∷ 10 ∷ s → ⊥
no_fields text x [] r s e =
    let e1 : csv_field true (text x) ++ behind text true [] r ≡ 13 ∷ 10 ∷ s = sym (opened text true (text x) [] r) ∙ e in
    let read : (text x, behind text true [] r) ≡ ([], 13 ∷ 10 ∷ s) = sym (first_read text true (text x) [] r) ∙ ap read_field e1 in
    let empty : text x ≡ [] = ap (λ (p : Read). p.0) read in
    true≢false (ap (λ (l : List ℕ). get_or l 0 0 == 34) (sym (ap (λ (t : List ℕ). csv_field true t ++ behind text true [] r) empty) ∙ e1))
no_fields text x (y ∷ ys) r s e =
    let e1 : csv_field false (text x) ++ behind text false (y ∷ ys) r ≡ 13 ∷ 10 ∷ s = sym (opened text false (text x) (y ∷ ys) r) ∙ many ∙ e in
    let read : (text x, behind text false (y ∷ ys) r) ≡ ([], 13 ∷ 10 ∷ s) = sym (first_read text false (text x) (y ∷ ys) r) ∙ ap read_field e1 in
    true≢false (ap (λ (p : Read). get_or p.1 0 0 == 44) read)
  where
    alone : (length (x ∷ y ∷ ys) == 1) ≡ false
    alone = not_one (length ys)

    many : ((csv_field false (text x) ++ flat_map (λ item. codes "," ++ csv_field false (text item)) (y ∷ ys)) ++ codes "\r\n") ++ r ≡ csv_record text (x ∷ y ∷ ys) ++ r
    many = ap (λ (b : Bool). ((csv_field b (text x) ++ flat_map (λ item. codes "," ++ csv_field b (text item)) (y ∷ ys)) ++ codes "\r\n") ++ r) (sym alone)

module _ {X Y : Type 0} (text : X → List ℕ) (other : Y → List ℕ) where
  same_record : (xs : List X) (ys : List Y) (r s : List ℕ) → csv_record text xs ++ r ≡ csv_record other ys ++ s → (map text xs ≡ map other ys) × (r ≡ s)
  same_record [] [] r s e = (refl, ap (drop 2) e)
  same_record [] (y ∷ ys) r s e = absurd (no_fields other y ys s r (sym e))
  same_record (x ∷ xs) [] r s e = absurd (no_fields text x xs r s e)
  same_record (x ∷ xs) (y ∷ ys) r s e =
      let a = length (x ∷ xs) == 1 in
      let b = length (y ∷ ys) == 1 in
      let front = same_front text other a b (text x) (other y) xs ys r s (sym (opened text a (text x) xs r) ∙ e ∙ opened other b (other y) ys s) in
      let more = same_behind text other a b xs ys r s front.1 in
      (λ i. front.0 i ∷ more.0 i, more.1)

-- ---- the rows

record_some : {A : Type 0} (values : List (Option Term)) (r : List ℕ) → [] ≡ csv_row values ++ r → A
record_some [] r e = cc
record_some (value ∷ values) r e =
    let text = csv_row (value ∷ values) in
    absurd (omega (arith, ap length e, length-append text r, length-append (join_by (λ item. csv_field (length (value ∷ values) == 1) (plain_text item)) (codes ",") (value ∷ values)) (codes "\r\n")))

same_rows : (rows more : List (List (Option Term))) → flat_map csv_row rows ≡ flat_map csv_row more → strings rows ≡ strings more
same_rows [] [] e = refl
same_rows [] (y ∷ ys) e = record_some y (flat_map csv_row ys) e
same_rows (x ∷ xs) [] e = record_some x (flat_map csv_row xs) (sym e)
same_rows (x ∷ xs) (y ∷ ys) e =
    let parts = same_record plain_text plain_text x y (flat_map csv_row xs) (flat_map csv_row ys) e in
    let others = same_rows xs ys parts.1 in
    λ i. parts.0 i ∷ others i

pub csv_tells_strings : CsvTellsStrings
csv_tells_strings columns others rows more e =
    let parts = same_record (λ (name : List ℕ). name) (λ (name : List ℕ). name) columns others (flat_map csv_row rows) (flat_map csv_row more) e in
    (sym (map-id columns) ∙ parts.0 ∙ map-id others, same_rows rows more parts.1)
