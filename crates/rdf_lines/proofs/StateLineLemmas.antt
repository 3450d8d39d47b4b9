-- What stands at the front of a state text.
use Rattle.std.proofs.Common.{◌≡◌, ◌∙◌, ap, refl, sym, subst, inl, inr, ℕ, zero, suc, ◌+◌, ◌<◌, ◌^◌, arith, Bool, true, false, ◌||◌, true≢false, List, [], ◌∷◌, ◌++◌, codes, decimal, length, take, drop, append_assoc, Option, Some, None, Result, Ok, Err, IsUtf8, nat_eq}
use Rattle.std.specs.Prelude.{slice_index, MatchOption}
use Rattle.std.specs.List.{list_any, AllByRecursion}
use Rattle.std.specs.Str.Parse.{AllDigits, digits_value, ParsesUnsigned}
use Rattle.std.proofs.lemmas.Bool.{and_parts, or_parts, or_from, eqb-true, ltb-true, false_from_ne_true, not-true}
use Rattle.std.proofs.lemmas.Fmt.{decimal_is_IsNumeral, decimal_injective}
use Rattle.std.proofs.lemmas.List.{append_cancel_left, append_cancel_right}
use Rattle.std.proofs.lemmas.Str.{IsUtf8-from_ascii}
use Rattle.std.proofs.lemmas.Str.Parse.{IsNumeralModel, numerals_by_value, tells_digits, parse_gives}
use Rattle.memchr.specs.Find.{IsFirstByte, is_byte}
use Rattle.rdf_terms.specs.LineEnds.{is_line_feed, is_return, is_line_end}
use Rattle.rdf_terms.specs.Quad.{is_quad}
use Rattle.rdf_terms.specs.Term.{is_term, is_literal_term}
use Rattle.rdf_terms.specs.TermText.{term_text}
use Rattle.rdf_terms.specs.declared.term.Term.{Term}
use Rattle.rdf_terms.specs.declared.term.Term.TheVariants.{Blank, Iri, Literal}
use Rattle.rdf_terms.specs.declared.quad.Quad.{Quad}
use Rattle.rdf_terms.proofs.CallerLemmas.{quad_tests, label_low, ascii_from, decimal_digits, is_digit, AllPass}
use Rattle.rdf_terms.specs.declared.fault.NoMemory.{NoMemory}
use Rattle.rdf_lines.specs.declared.fault.FaultKind.{FaultKind}
use Rattle.rdf_lines.specs.declared.fault.FaultKind.TheVariants as fault
use Rattle.rdf_lines.specs.declared.format.LineFormat.TheVariants.{NQuads}
use Rattle.rdf_lines.specs.declared.statement.Statement.{Statement}
use Rattle.rdf_lines.specs.Line.{LineSays, LineTells}
use Rattle.rdf_lines.specs.QuadText.{quad_text}
use Rattle.rdf_lines.specs.RoundTrip.{statement_of}
use Rattle.rdf_lines.specs.StateText.{is_graph_name, name_line}
use Rattle.rdf_lines.specs.Inside.StateListing.{HasNoFeed, IsFirstLine}
use Rattle.rdf_lines.proofs.RoundTripLemmas.{end_text, line_of, quad_line, says_statement}
use Rattle.rdf_lines.proofs.LineLaws.{one_answer}
use Rattle.rdf_lines.proofs.WrittenLineLemmas.{NoEnd, term_no_end, line_no_end}

-- ---- the first LF

abbrev feed : ℕ → Bool
feed b = nat_eq b 10

or_true : (b : Bool) → (b || true) ≡ true
or_true true = refl
or_true false = refl

has_feed : (line more : List ℕ) → list_any feed (line ++ 10 ∷ more) ≡ true
has_feed [] more = refl
has_feed (c ∷ cs) more = ap (λ v. feed c || v) (has_feed cs more) ∙ or_true (feed c)

pub no_line : (text line more : List ℕ) → HasNoFeed text → text ≡ line ++ 10 ∷ more → ⊥
no_line text line more h e = true≢false (sym (has_feed line more) ∙ ap (list_any feed) (sym e) ∙ h)

pub head_is : (a b : ℕ) (xs ys : List ℕ) → a ∷ xs ≡ b ∷ ys → a ≡ b
head_is a b xs ys e = cc

pub tail_is : (a b : ℕ) (xs ys : List ℕ) → a ∷ xs ≡ b ∷ ys → xs ≡ ys
tail_is a b xs ys e = cc

-- a text is cut at its first LF in one way
pub one_cut : (a b xs ys : List ℕ) → HasNoFeed a → HasNoFeed b → a ++ 10 ∷ xs ≡ b ++ 10 ∷ ys → (a ≡ b) × (xs ≡ ys)
one_cut [] [] xs ys h k e = (refl, tail_is 10 10 xs ys e)
one_cut [] (d ∷ b) xs ys h k e = absurd (true≢false (ap feed (head_is 10 d xs (b ++ 10 ∷ ys) e) ∙ (or_parts (feed d) (list_any feed b) k).0))
one_cut (c ∷ a) [] xs ys h k e = absurd (true≢false (ap feed (sym (head_is c 10 (a ++ 10 ∷ xs) ys e)) ∙ (or_parts (feed c) (list_any feed a) h).0))
one_cut (c ∷ a) (d ∷ b) xs ys h k e =
    let first = head_is c d (a ++ 10 ∷ xs) (b ++ 10 ∷ ys) e in
    let rest = one_cut a b xs ys (or_parts (feed c) (list_any feed a) h).1 (or_parts (feed d) (list_any feed b) k).1 (tail_is c d (a ++ 10 ∷ xs) (b ++ 10 ∷ ys) e) in
    (λ i. first i ∷ rest.0 i, rest.1)

none_there : (xs : List ℕ) → ((k : ℕ) → k < length xs → feed (slice_index xs k) ≡ true → ⊥) → HasNoFeed xs
none_there [] miss = refl
none_there (b ∷ bs) miss = or_from (feed b) (list_any feed bs) (false_from_ne_true (feed b) (miss 0 (omega arith))) (none_there bs (λ k l. miss (suc k) (omega (arith, l))))

first_there : (xs : List ℕ) (k : ℕ) → k < length xs → ((i : ℕ) → i < k → feed (slice_index xs i) ≡ true → ⊥) → feed (slice_index xs k) ≡ true
    → HasNoFeed (take k xs) × (xs ≡ take k xs ++ 10 ∷ drop 1 (drop k xs))
first_there [] k h miss is = absurd (omega (arith, h))
first_there (b ∷ bs) zero h miss is = (refl, ap (λ (c : ℕ). c ∷ bs) (eqb-true b 10 is))
first_there (b ∷ bs) (suc k) h miss is =
    let r = first_there bs k (omega (arith, h)) (λ i l. miss (suc i) (omega (arith, l))) is in
    (or_from (feed b) (list_any feed (take k bs)) (false_from_ne_true (feed b) (miss 0 (omega arith))) r.0, ap (λ (l : List ℕ). b ∷ l) r.1)

pub no_first : (xs : List ℕ) → IsFirstByte (is_byte 10) xs None → HasNoFeed xs
no_first xs miss = none_there xs (λ k h. miss k (omega arith) h)

pub first_is : (xs line ended more : List ℕ) (k : ℕ) → IsFirstByte (is_byte 10) xs (Some k) → line ≡ take k xs → ended ≡ drop k xs → more ≡ drop 1 ended → IsFirstLine xs line more
first_is xs line ended more k found a b d =
    let r = first_there xs k found.0.high (λ i l. found.0.before i (omega arith) l) found.1 in
    let behind : more ≡ drop 1 (drop k xs) = d ∙ ap (drop 1) b in
    (ap (list_any feed) a ∙ r.0, r.1 ∙ (λ i. sym a i ++ 10 ∷ sym behind i))

-- ---- numbers

own : IsNumeralModel (AllDigits 10) (digits_value 10)
own = numerals_by_value (AllDigits 10) tells_digits

pub parsed_back : {E : Type 0} (digits : List ℕ) (n : ℕ) (r : Result ℕ E) → ParsesUnsigned 64 10 digits r → n < 2 ^ 64 → decimal n ≡ digits → r ≡ Ok n
parsed_back digits n r p h e =
    let d = decimal_is_IsNumeral n h in
    let value : digits_value 10 digits ≡ n = ap (digits_value 10) (sym e) ∙ d.1 in
    parse_gives own 64 digits r p (subst (AllDigits 10) e d.0.1) (subst (λ (ds : List ℕ). 0 < length ds) e d.0.0) (omega (arith, value, h)) ∙ ap Ok value

pub decimal_utf8 : (n : ℕ) → n < 2 ^ 64 → IsUtf8 (decimal n)
decimal_utf8 n h = IsUtf8-from_ascii (decimal n) (ascii_from (decimal n) (label_low n h).1)

digit_no_feed : (c : ℕ) → is_digit c ≡ true → feed c ≡ false
digit_no_feed c h = false_from_ne_true (feed c) (λ is. true≢false (sym h ∙ ap is_digit (eqb-true c 10 is)))

digits_no_feed : (cs : List ℕ) → AllPass is_digit cs → HasNoFeed cs
digits_no_feed [] h = refl
digits_no_feed (c ∷ cs) h = or_from (feed c) (list_any feed cs) (digit_no_feed c h.0) (digits_no_feed cs h.1)

pub decimal_no_feed : (n : ℕ) → n < 2 ^ 64 → HasNoFeed (decimal n)
decimal_no_feed n h = digits_no_feed (decimal n) (decimal_digits n h)

-- ---- lines of names and of quads

no_feed : (bs : List ℕ) → NoEnd bs → HasNoFeed bs
no_feed [] h = refl
no_feed (b ∷ bs) h =
    let parts = or_parts (is_line_end b) (list_any is_line_end bs) h in
    or_from (feed b) (list_any feed bs) (or_parts (is_line_feed b) (is_return b) parts.0).0 (no_feed bs parts.1)

pub name_is_term : (t : Term) → is_graph_name t ≡ true → is_term t ≡ true
name_is_term t h = (and_parts (is_term t) _ h).0

pub name_no_literal : (t : Term) → is_graph_name t ≡ true → is_literal_term t ≡ false
name_no_literal t h = not-true (is_literal_term t) (and_parts (is_term t) _ h).1

pub name_no_feed : (t : Term) → is_graph_name t ≡ true → HasNoFeed (term_text t)
name_no_feed t h = no_feed (term_text t) (term_no_end t (name_is_term t h))

pub quad_no_feed : (q : Quad) → is_quad q ≡ true → HasNoFeed (line_of q)
quad_no_feed q h = no_feed (line_of q) (line_no_end q (quad_tests q h))

pub quad_front : (q : Quad) (more : List ℕ) → quad_text q ++ more ≡ line_of q ++ 10 ∷ more
quad_front q more = ap (λ (l : List ℕ). l ++ more) (quad_line q) ∙ append_assoc (line_of q) (10 ∷ []) more

pub name_front : (t : Term) (more : List ℕ) → name_line t ++ more ≡ codes "#% graph " ++ (term_text t ++ 10 ∷ more)
name_front t more = ap (λ (l : List ℕ). codes "#% graph " ++ l) (append_assoc (term_text t) (10 ∷ []) more)

-- no term of a node begins with `#`
node_begins : (t : Term) (rest more : List ℕ) → is_literal_term t ≡ false → term_text t ++ rest ≡ 35 ∷ more → ⊥
node_begins (Blank n) rest more h e = let p : 95 ≡ 35 = head_is 95 35 _ more e in omega (arith, p)
node_begins (Iri iri) rest more h e = let p : 60 ≡ 35 = head_is 60 35 _ more e in omega (arith, p)
node_begins (Literal l) rest more h e = true≢false h

pub quad_begins : (q : Quad) (rest more : List ℕ) → is_quad q ≡ true → quad_text q ++ rest ≡ 35 ∷ more → ⊥
quad_begins q rest more h e =
    let behind = 32 ∷ (term_text q.predicate ++ 32 ∷ (term_text q.object ++ 32 ∷ end_text q.graph)) in
    node_begins q.subject (behind ++ 10 ∷ rest) more (quad_tests q h).subject_kind (sym (append_assoc (term_text q.subject) behind (10 ∷ rest)) ∙ sym (quad_front q rest) ∙ e)

-- ---- what isn't there

pub no_number : (bytes counter digits behind : List ℕ) → bytes ≡ codes "#% rdfkeep state 2\n#% next " ++ counter → IsFirstLine counter digits behind
    → ((n : ℕ) → n < 2 ^ 64 → decimal n ≡ digits → ⊥) → (n : ℕ) (more : List ℕ) → n < 2 ^ 64 → bytes ≡ codes "#% rdfkeep state 2\n#% next " ++ (decimal n ++ 10 ∷ more) → ⊥
no_number bytes counter digits behind e f none n more h g =
    let same : counter ≡ decimal n ++ 10 ∷ more = append_cancel_left (codes "#% rdfkeep state 2\n#% next ") _ _ (sym e ∙ g) in
    none n h (sym (one_cut digits (decimal n) behind more f.0 (decimal_no_feed n h) (sym f.1 ∙ same)).0)

pub no_name : (text line behind : List ℕ) → IsFirstLine text line behind → ((t : Term) → is_graph_name t ≡ true → line ≡ term_text t → ⊥)
    → (t : Term) (more : List ℕ) → is_graph_name t ≡ true → text ≡ term_text t ++ 10 ∷ more → ⊥
no_name text line behind f none t more h e = none t h (one_cut line (term_text t) behind more f.0 (name_no_feed t h) (sym f.1 ∙ e)).0

pub number_back : (digits : List ℕ) (n : ℕ) (r : Option ℕ) → MatchOption r ((m : ℕ) → m < 2 ^ 64 → decimal m ≡ digits → ⊥) (λ m. (m < 2 ^ 64) × (decimal m ≡ digits)) → n < 2 ^ 64 → decimal n ≡ digits → r ≡ Some n
number_back digits n None none h e = absurd (none n h e)
number_back digits n (Some m) said h e = ap (λ (k : ℕ). Some k) (decimal_injective m n said.0 h (said.1 ∙ sym e))

-- the first line, where a quad's line is there
pub line_there : (text line behind : List ℕ) (q : Quad) (more : List ℕ) → IsFirstLine text line behind → is_quad q ≡ true → text ≡ quad_text q ++ more → quad_text q ≡ line ++ codes "\n"
line_there text line behind q more f h e =
    quad_line q ∙ ap (λ (l : List ℕ). l ++ codes "\n") (sym (one_cut line (line_of q) behind more f.0 (quad_no_feed q h) (sym f.1 ∙ e ∙ quad_front q more)).0)

some_is : (r : Option Statement) (s : Statement) → ◌≡◌ {A = Result (Option Statement) FaultKind} (Ok r) (Ok (Some s)) → r ≡ Some s
some_is r s e = cc

err_no : (kind : FaultKind) (s : Statement) → ◌≡◌ {A = Result (Option Statement) FaultKind} (Err kind) (Ok (Some s)) → ⊥
err_no kind s e = cc

says_quad : (line : List ℕ) (q : Quad) → is_quad q ≡ true → quad_text q ≡ line ++ codes "\n" → LineSays NQuads line (Ok (Some (statement_of q)))
says_quad line q h e =
    subst (λ (l : List ℕ). LineSays NQuads l (Ok (Some (statement_of q)))) (append_cancel_right (line_of q) line (codes "\n") (sym (quad_line q) ∙ e)) (says_statement q h)

pub says_back : (line : List ℕ) (r : Option Statement) (q : Quad) → LineSays NQuads line (Ok r) → is_quad q ≡ true → quad_text q ≡ line ++ codes "\n" → r ≡ Some (statement_of q)
says_back line r q s h e = some_is r (statement_of q) (one_answer NQuads line (Ok r) (Ok (Some (statement_of q))) s (says_quad line q h e))

pub refuses_no_quad : (line : List ℕ) (kind : FaultKind) (q : Quad) → LineSays NQuads line (Err kind) → is_quad q ≡ true → quad_text q ≡ line ++ codes "\n" → ⊥
refuses_no_quad line kind q s h e = err_no kind (statement_of q) (one_answer NQuads line (Err kind) (Ok (Some (statement_of q))) s (says_quad line q h e))

pub refused_no_quad : (line : List ℕ) (kind : FaultKind) (q : Quad) → ((x : NoMemory) → kind ≡ fault.NoMemory x → ⊥) → LineTells NQuads line (Err kind) → is_quad q ≡ true → quad_text q ≡ line ++ codes "\n" → ⊥
refused_no_quad line fault.NotUtf8 q not s h e = refuses_no_quad line fault.NotUtf8 q s h e
refused_no_quad line fault.Syntax q not s h e = refuses_no_quad line fault.Syntax q s h e
refused_no_quad line fault.Relative q not s h e = refuses_no_quad line fault.Relative q s h e
refused_no_quad line fault.Read q not s h e = s
refused_no_quad line (fault.NoMemory x) q not s h e = not x refl
refused_no_quad line fault.Failed q not s h e = s
