-- The text of a selection in JSON tells its columns and rows.
use Rattle.std.proofs.Common.{◌≡◌, ◌≢◌, ◌∙◌, ap, refl, sym, subst, ℕ, suc, ◌<◌, ◌^◌, arith, Bool, true, false, ◌==◌, if◌then◌else◌, List, [], ◌∷◌, ◌++◌, length, drop, get_or, codes, decimal, nat_eq, append_assoc, true≢false, Option, Some, None}
use Rattle.std.specs.Cmp.Lexicographic.{pointwise, bytes_decides}
use Rattle.std.specs.List.{AllByRecursion, flat_map, join_by, zip}
use Rattle.std.specs.Str.Parse.{digits_value}
use Rattle.std.proofs.lemmas.Bool.{ltb-true}
use Rattle.std.proofs.lemmas.Fmt.{decimal_is_IsNumeral}
use Rattle.std.proofs.lemmas.List.{append_cancel_left}
use Rattle.rdf_terms.specs.Literal.{LiteralParts, xsd_string, tag_fits}
use Rattle.rdf_terms.specs.Term.{is_term}
use Rattle.rdf_terms.specs.declared.term.Term.{Term}
use Rattle.rdf_terms.specs.declared.term.Term.TheVariants.{Blank, Iri, Literal}
use Rattle.rdf_terms.proofs.CallerLemmas.{literal_parts, tag_parts}
use Rattle.sparql_results.specs.FormLaws.{AreDistinct, JsonTellsRows}
use Rattle.sparql_results.specs.JsonText.{bound, json_datatype, json_end, json_header, json_literal, json_member, json_row, json_rows, json_solution, json_string, json_suffix, json_term}
use Rattle.sparql_results.specs.RowLaws.{AreValues}
use Rattle.sparql_results.proofs.JsonStringLemmas.{same_string}

-- whatever follows it, the text of an element tells it
abbrev Tells : (A : Type 0) → (A → List ℕ) → (A → Type 0) → Type 0
Tells A text P = (x y : A) (r s : List ℕ) → P x → P y → text x ++ r ≡ text y ++ s → (x ≡ y) × (r ≡ s)

-- ---- literals

-- a text, and what closes it
closed : (text r : List ℕ) → (json_string text ++ codes "}") ++ r ≡ json_string text ++ 125 ∷ r
closed text r = append_assoc (json_string text) (codes "}") r

same_closed : (x y r s : List ℕ) → (json_string x ++ codes "}") ++ r ≡ (json_string y ++ codes "}") ++ s → (x ≡ y) × (r ≡ s)
same_closed x y r s e =
    let parts = same_string x y (125 ∷ r) (125 ∷ s) (sym (closed x r) ∙ e ∙ closed y s) in (parts.0, ap (drop 1) parts.1)

datatypes : (d e r s : List ℕ) → json_datatype d ++ 125 ∷ r ≡ json_datatype e ++ 125 ∷ s → (d ≡ e) × (r ≡ s)
datatypes d e r s h = by (pointwise nat_eq d xsd_string) (pointwise nat_eq e xsd_string) refl refl h
  where
    by : (a b : Bool) → pointwise nat_eq d xsd_string ≡ a → pointwise nat_eq e xsd_string ≡ b
        → (if a then [] else codes ",\"datatype\":" ++ json_string d) ++ 125 ∷ r ≡ (if b then [] else codes ",\"datatype\":" ++ json_string e) ++ 125 ∷ s
        → (d ≡ e) × (r ≡ s)
    by true true p q h = ((bytes_decides d xsd_string).0 p ∙ sym ((bytes_decides e xsd_string).0 q), ap (drop 1) h)
    by true false p q h = absurd (true≢false (ap (λ (l : List ℕ). get_or l 0 0 == 125) h))
    by false true p q h = absurd (true≢false (ap (λ (l : List ℕ). get_or l 0 0 == 125) (sym h)))
    by false false p q h =
        let parts = same_string d e (125 ∷ r) (125 ∷ s) (append_cancel_left (codes ",\"datatype\":") (json_string d ++ 125 ∷ r) (json_string e ++ 125 ∷ s) h) in
        (parts.0, ap (drop 1) parts.1)

tag_or_datatype : {A : Type 0} (tag d r s : List ℕ) → (codes ",\"xml:lang\":" ++ json_string tag) ++ 125 ∷ r ≡ json_datatype d ++ 125 ∷ s → A
tag_or_datatype tag d r s h = by (pointwise nat_eq d xsd_string) h
  where
    by : {A : Type 0} (b : Bool) → (codes ",\"xml:lang\":" ++ json_string tag) ++ 125 ∷ r ≡ (if b then [] else codes ",\"datatype\":" ++ json_string d) ++ 125 ∷ s → A
    by true h = absurd (true≢false (ap (λ (l : List ℕ). get_or l 0 0 == 44) h))
    by false h = absurd (true≢false (ap (λ (l : List ℕ). get_or l 2 0 == 120) h))

suffixes : (d e : List ℕ) (s t : Option (List ℕ)) (u v : List ℕ) → tag_fits d s ≡ true → tag_fits e t ≡ true
    → json_suffix d s ++ 125 ∷ u ≡ json_suffix e t ++ 125 ∷ v → (d ≡ e) × (s ≡ t) × (u ≡ v)
suffixes d e None None u v p q h = let parts = datatypes d e u v h in (parts.0, refl, parts.1)
suffixes d e None (Some t) u v p q h = tag_or_datatype t d v u (sym h)
suffixes d e (Some s) None u v p q h = tag_or_datatype s e u v h
suffixes d e (Some s) (Some t) u v p q h =
    let parts = same_string s t (125 ∷ u) (125 ∷ v) (append_cancel_left (codes ",\"xml:lang\":") (json_string s ++ 125 ∷ u) (json_string t ++ 125 ∷ v) h) in
    ((tag_parts d s p).0 ∙ sym (tag_parts e t q).0, ap Some parts.0, ap (drop 1) parts.1)

abbrev literal_front : List ℕ
literal_front = codes "{\"type\":\"literal\",\"value\":"

literal_opened : (l : LiteralParts) (r : List ℕ)
    → ((json_string l.lexical ++ json_suffix l.datatype l.tag) ++ codes "}") ++ r ≡ json_string l.lexical ++ (json_suffix l.datatype l.tag ++ 125 ∷ r)
literal_opened l r =
    append_assoc (json_string l.lexical ++ json_suffix l.datatype l.tag) (codes "}") r ∙ append_assoc (json_string l.lexical) (json_suffix l.datatype l.tag) (125 ∷ r)

literals : (l m : LiteralParts) (r s : List ℕ) → tag_fits l.datatype l.tag ≡ true → tag_fits m.datatype m.tag ≡ true
    → json_literal l ++ r ≡ json_literal m ++ s → (l ≡ m) × (r ≡ s)
literals l m r s p q h =
    let inside = append_cancel_left literal_front (((json_string l.lexical ++ json_suffix l.datatype l.tag) ++ codes "}") ++ r)
    (((json_string m.lexical ++ json_suffix m.datatype m.tag) ++ codes "}") ++ s) h in
    let parts = same_string l.lexical m.lexical (json_suffix l.datatype l.tag ++ 125 ∷ r) (json_suffix m.datatype m.tag ++ 125 ∷ s)
    (sym (literal_opened l r) ∙ inside ∙ literal_opened m s) in
    let more = suffixes l.datatype m.datatype l.tag m.tag r s p q parts.1 in
    (λ i. record { lexical = parts.0 i; datatype = more.0 i; tag = more.1 i }, more.2)

-- ---- terms

blanks : (m n : ℕ) → m < 2 ^ 64 → n < 2 ^ 64 → codes "b" ++ decimal m ≡ codes "b" ++ decimal n → m ≡ n
blanks m n p q e =
    sym (decimal_is_IsNumeral m p).1 ∙ ap (digits_value 10) (append_cancel_left (codes "b") (decimal m) (decimal n) e) ∙ (decimal_is_IsNumeral n q).1

-- the first letter of the type
abbrev kind : List ℕ → ℕ
kind text = get_or text 9 0

same_term : Tells Term json_term (λ t. is_term t ≡ true)
same_term (Blank m) (Blank n) r s p q e =
    let parts = same_closed (codes "b" ++ decimal m) (codes "b" ++ decimal n) r s
    (append_cancel_left (codes "{\"type\":\"bnode\",\"value\":") ((json_string (codes "b" ++ decimal m) ++ codes "}") ++ r) ((json_string (codes "b" ++ decimal n) ++ codes "}") ++ s) e) in
    (ap Blank (blanks m n (ltb-true m 18446744073709551616 p) (ltb-true n 18446744073709551616 q) parts.0), parts.1)
same_term (Blank m) (Iri i) r s p q e = absurd (true≢false (ap (λ (l : List ℕ). kind l == 98) e))
same_term (Blank m) (Literal l) r s p q e = absurd (true≢false (ap (λ (l : List ℕ). kind l == 98) e))
same_term (Iri i) (Blank n) r s p q e = absurd (true≢false (ap (λ (l : List ℕ). kind l == 117) e))
same_term (Iri i) (Iri j) r s p q e =
    let parts = same_closed i j r s
    (append_cancel_left (codes "{\"type\":\"uri\",\"value\":") ((json_string i ++ codes "}") ++ r) ((json_string j ++ codes "}") ++ s) e) in
    (ap Iri parts.0, parts.1)
same_term (Iri i) (Literal l) r s p q e = absurd (true≢false (ap (λ (l : List ℕ). kind l == 117) e))
same_term (Literal l) (Blank n) r s p q e = absurd (true≢false (ap (λ (l : List ℕ). kind l == 108) e))
same_term (Literal l) (Iri j) r s p q e = absurd (true≢false (ap (λ (l : List ℕ). kind l == 108) e))
same_term (Literal l) (Literal m) r s p q e =
    let parts = literals l m r s (literal_parts l p).2 (literal_parts m q).2 e in (ap Literal parts.0, parts.1)

-- ---- members

abbrev IsMember : List ℕ × Term → Type 0
IsMember member = is_term member.1 ≡ true

member_opened : (name : List ℕ) (term : Term) (r : List ℕ) → json_member (name, term) ++ r ≡ json_string name ++ 58 ∷ (json_term term ++ r)
member_opened name term r =
    append_assoc (json_string name ++ codes ":") (json_term term) r ∙ append_assoc (json_string name) (codes ":") (json_term term ++ r)

same_member : Tells (List ℕ × Term) json_member IsMember
same_member (m, x) (n, y) r s p q e =
    let name = same_string m n (58 ∷ (json_term x ++ r)) (58 ∷ (json_term y ++ s)) (sym (member_opened m x r) ∙ e ∙ member_opened n y s) in
    let term = same_term x y r s p q (ap (drop 1) name.1) in
    (λ i. (name.0 i, term.0 i), term.1)

-- ---- lists: a byte before each further element, and another behind the last

module _ {A : Type 0} (text : A → List ℕ) (P : A → Type 0) (tells : Tells A text P) (before behind : ℕ) (differ : before ≢ behind) where
  same_others : (xs ys : List A) (r s : List ℕ) → AllByRecursion P xs → AllByRecursion P ys
      → flat_map (λ x. before ∷ text x) xs ++ behind ∷ r ≡ flat_map (λ y. before ∷ text y) ys ++ behind ∷ s → (xs ≡ ys) × (r ≡ s)
  same_others [] [] r s p q e = (refl, ap (drop 1) e)
  same_others [] (y ∷ ys) r s p q e = absurd (differ (ap (λ (l : List ℕ). get_or l 0 0) (sym e)))
  same_others (x ∷ xs) [] r s p q e = absurd (differ (ap (λ (l : List ℕ). get_or l 0 0) e))
  same_others (x ∷ xs) (y ∷ ys) r s p q e =
      let front = tells x y (flat_map (λ x. before ∷ text x) xs ++ behind ∷ r) (flat_map (λ y. before ∷ text y) ys ++ behind ∷ s) p.0 q.0
      (sym (append_assoc (text x) (flat_map (λ x. before ∷ text x) xs) (behind ∷ r)) ∙ ap (drop 1) e ∙ append_assoc (text y) (flat_map (λ y. before ∷ text y) ys) (behind ∷ s)) in
      let more = same_others xs ys r s p.1 q.1 front.1 in
      ((λ i. front.0 i ∷ more.0 i), more.1)

module _ {A : Type 0} (text : A → List ℕ) (P : A → Type 0) (tells : Tells A text P) (behind : ℕ)
    (comma_differs : 44 ≢ behind) (quote_differs : 34 ≢ behind) (begins : (x : A) (r : List ℕ) → get_or (text x ++ r) 0 0 ≡ 34) where
  opened : (x : A) (xs : List A) (r : List ℕ) → join_by text (codes ",") (x ∷ xs) ++ behind ∷ r ≡ text x ++ (flat_map (λ y. 44 ∷ text y) xs ++ behind ∷ r)
  opened x xs r = append_assoc (text x) (flat_map (λ y. 44 ∷ text y) xs) (behind ∷ r)

  same_joined : (xs ys : List A) (r s : List ℕ) → AllByRecursion P xs → AllByRecursion P ys
      → join_by text (codes ",") xs ++ behind ∷ r ≡ join_by text (codes ",") ys ++ behind ∷ s → (xs ≡ ys) × (r ≡ s)
  same_joined [] [] r s p q e = (refl, ap (drop 1) e)
  same_joined [] (y ∷ ys) r s p q e =
      absurd (quote_differs (sym (begins y (flat_map (λ y. 44 ∷ text y) ys ++ behind ∷ s)) ∙ ap (λ (l : List ℕ). get_or l 0 0) (sym (opened y ys s) ∙ sym e)))
  same_joined (x ∷ xs) [] r s p q e =
      absurd (quote_differs (sym (begins x (flat_map (λ y. 44 ∷ text y) xs ++ behind ∷ r)) ∙ ap (λ (l : List ℕ). get_or l 0 0) (sym (opened x xs r) ∙ e)))
  same_joined (x ∷ xs) (y ∷ ys) r s p q e =
      let front = tells x y (flat_map (λ y. 44 ∷ text y) xs ++ behind ∷ r) (flat_map (λ y. 44 ∷ text y) ys ++ behind ∷ s) p.0 q.0
      (sym (opened x xs r) ∙ e ∙ opened y ys s) in
      let more = same_others text P tells 44 behind comma_differs xs ys r s p.1 q.1 front.1 in
      ((λ i. front.0 i ∷ more.0 i), more.1)

-- ---- columns

abbrev Any : List ℕ → Type 0
Any name = Unit {0}

any_all : (names : List (List ℕ)) → AllByRecursion Any names
any_all [] = tt
any_all (name ∷ names) = (tt, any_all names)

same_name : Tells (List ℕ) json_string Any
same_name x y r s p q e = same_string x y r s e

-- ---- rows

bound_terms : (names : List (List ℕ)) (values : List (Option Term)) → AreValues values → AllByRecursion IsMember (flat_map bound (zip names values))
bound_terms [] values h = tt
bound_terms (name ∷ names) [] h = tt
bound_terms (name ∷ names) (None ∷ values) h = bound_terms names values h.1
bound_terms (name ∷ names) (Some term ∷ values) h = (h.0, bound_terms names values h.1)

abbrev name_at : List (List ℕ × Term) → List ℕ
name_at [] = []
name_at (member ∷ members) = member.0

abbrev term_at : Term → List (List ℕ × Term) → Term
term_at other [] = other
term_at other (member ∷ members) = member.1

-- a name that differs from all of these binds nothing
not_bound : {A : Type 0} (name : List ℕ) (term : Term) (more : List (List ℕ × Term)) (names : List (List ℕ)) (values : List (Option Term))
    → AllByRecursion (λ other. name ≢ other) names → (name, term) ∷ more ≡ flat_map bound (zip names values) → A
not_bound name term more [] values h e = absurd (let bad : ⊥ = cc in bad)
not_bound name term more (other ∷ names) [] h e = absurd (let bad : ⊥ = cc in bad)
not_bound name term more (other ∷ names) (None ∷ values) h e = not_bound name term more names values h.1 e
not_bound name term more (other ∷ names) (Some t ∷ values) h e = absurd (h.0 (ap name_at e))

no_width : {A : Type 0} (n : ℕ) → 0 ≡ suc n → A
no_width n e = absurd (omega arith)

same_values : (names : List (List ℕ)) (xs ys : List (Option Term)) → AreDistinct names → length xs ≡ length names → length ys ≡ length names
    → flat_map bound (zip names xs) ≡ flat_map bound (zip names ys) → xs ≡ ys
same_values [] [] [] d m n e = refl
same_values [] [] (y ∷ ys) d m n e = no_width (length ys) (sym n)
same_values [] (x ∷ xs) ys d m n e = no_width (length xs) (sym m)
same_values (name ∷ names) [] ys d m n e = no_width (length names) m
same_values (name ∷ names) (x ∷ xs) [] d m n e = no_width (length names) n
same_values (name ∷ names) (None ∷ xs) (None ∷ ys) d m n e =
    let more = same_values names xs ys d.1 (omega (arith, m)) (omega (arith, n)) e in λ i. None ∷ more i
same_values (name ∷ names) (None ∷ xs) (Some t ∷ ys) d m n e = not_bound name t (flat_map bound (zip names ys)) names xs d.0 (sym e)
same_values (name ∷ names) (Some s ∷ xs) (None ∷ ys) d m n e = not_bound name s (flat_map bound (zip names xs)) names ys d.0 e
same_values (name ∷ names) (Some s ∷ xs) (Some t ∷ ys) d m n e =
    let term : s ≡ t = ap (term_at s) e in
    let more = same_values names xs ys d.1 (omega (arith, m)) (omega (arith, n)) (ap (drop 1) e) in
    λ i. Some (term i) ∷ more i

abbrev Fits : List (List ℕ) → List (Option Term) → Type 0
Fits names row = (length row ≡ length names) × AreValues row

member_begins : (member : List ℕ × Term) (r : List ℕ) → get_or (json_member member ++ r) 0 0 ≡ 34
member_begins (name, term) r = refl

abbrev Apart : ℕ → ℕ → Type 0
Apart a b = a ≡ b → ⊥

comma_brace : Apart 44 125
comma_brace e = true≢false (ap (λ (n : ℕ). n == 44) e)

quote_brace : Apart 34 125
quote_brace e = true≢false (ap (λ (n : ℕ). n == 34) e)

comma_bracket : Apart 44 93
comma_bracket e = true≢false (ap (λ (n : ℕ). n == 44) e)

quote_bracket : Apart 34 93
quote_bracket e = true≢false (ap (λ (n : ℕ). n == 34) e)

comma_feed : Apart 44 10
comma_feed e = true≢false (ap (λ (n : ℕ). n == 44) e)

same_solution : (names : List (List ℕ)) → AreDistinct names → Tells (List (Option Term)) (json_solution names) (Fits names)
same_solution names d xs ys r s p q e =
    let members = same_joined json_member IsMember same_member 125 comma_brace quote_brace member_begins (flat_map bound (zip names xs)) (flat_map bound (zip names ys)) r s
    (bound_terms names xs p.1) (bound_terms names ys q.1)
    (sym (append_assoc (join_by json_member (codes ",") (flat_map bound (zip names xs))) (codes "}") r) ∙ ap (drop 1) e
    ∙ append_assoc (join_by json_member (codes ",") (flat_map bound (zip names ys))) (codes "}") s) in
    (same_values names xs ys d p.0 q.0 members.0, members.1)

-- a row behind the comma that ends the line before
abbrev on_a_line : List (List ℕ) → List (Option Term) → List ℕ
on_a_line names row = 10 ∷ json_solution names row

same_line : (names : List (List ℕ)) → AreDistinct names → Tells (List (Option Term)) (on_a_line names) (Fits names)
same_line names d xs ys r s p q e = same_solution names d xs ys r s p q (ap (drop 1) e)

same_rows : (names : List (List ℕ)) (xs ys : List (List (Option Term))) → AreDistinct names → AllByRecursion (Fits names) xs → AllByRecursion (Fits names) ys
    → json_rows names xs ++ json_end ≡ json_rows names ys ++ json_end → xs ≡ ys
same_rows names [] [] d p q e = refl
same_rows names [] (y ∷ ys) d p q e = absurd (true≢false (ap (λ (l : List ℕ). get_or l 1 0 == 93) e))
same_rows names (x ∷ xs) [] d p q e = absurd (true≢false (ap (λ (l : List ℕ). get_or l 1 0 == 93) (sym e)))
same_rows names (x ∷ xs) (y ∷ ys) d p q e =
    let front = same_line names d x y (flat_map (json_row false names) xs ++ json_end) (flat_map (json_row false names) ys ++ json_end) p.0 q.0
    (sym (append_assoc (json_row true names x) (flat_map (json_row false names) xs) json_end) ∙ e ∙ append_assoc (json_row true names y) (flat_map (json_row false names) ys) json_end) in
    let more = same_others (on_a_line names) (Fits names) (same_line names d) 44 10 comma_feed xs ys (codes "]}}\n") (codes "]}}\n") p.1 q.1 front.1 in
    λ i. front.0 i ∷ more.0 i

-- ---- the whole

abbrev after_columns : List ℕ
after_columns = codes "},\"results\":{\"bindings\":["

header_opened : (names : List (List ℕ)) (r : List ℕ)
    → (join_by json_string (codes ",") names ++ codes "]},\"results\":{\"bindings\":[") ++ r ≡ join_by json_string (codes ",") names ++ 93 ∷ (after_columns ++ r)
header_opened names r = append_assoc (join_by json_string (codes ",") names) (codes "]},\"results\":{\"bindings\":[") r

name_begins : (name r : List ℕ) → get_or (json_string name ++ r) 0 0 ≡ 34
name_begins name r = refl

columns_told : (names others : List (List ℕ)) (r s : List ℕ) → json_header names ++ r ≡ json_header others ++ s → (names ≡ others) × (r ≡ s)
columns_told names others r s e =
    let inside = append_cancel_left (codes "{\"head\":{\"vars\":[") ((join_by json_string (codes ",") names ++ codes "]},\"results\":{\"bindings\":[") ++ r)
    ((join_by json_string (codes ",") others ++ codes "]},\"results\":{\"bindings\":[") ++ s) e in
    let parts = same_joined json_string Any same_name 93 comma_bracket quote_bracket name_begins names others (after_columns ++ r) (after_columns ++ s)
    (any_all names) (any_all others) (sym (header_opened names r) ∙ inside ∙ header_opened others s) in
    (parts.0, append_cancel_left after_columns r s parts.1)

pub json_tells_rows : JsonTellsRows
json_tells_rows columns others rows more a b e =
    let parts = columns_told columns others (json_rows columns rows ++ json_end) (json_rows others more ++ json_end)
    (sym (append_assoc (json_header columns) (json_rows columns rows) json_end) ∙ e ∙ append_assoc (json_header others) (json_rows others more) json_end) in
    let fit : AllByRecursion (Fits columns) more = subst (λ (names : List (List ℕ)). AllByRecursion (Fits names) more) (sym parts.0) b.rows_fit in
    let text : json_rows columns rows ++ json_end ≡ json_rows columns more ++ json_end =
    parts.1 ∙ ap (λ (names : List (List ℕ)). json_rows names more ++ json_end) (sym parts.0) in
    (parts.0, same_rows columns rows more a.names a.rows_fit fit text)
