-- The lines of quads, one after the other, are the lines of a text.
use Rattle.std.proofs.Common.{◌≡◌, ◌∙◌, ap, refl, sym, subst, inl, inr, ℕ, ◌+◌, arith, Bool, true, false, ◌==◌, if◌then◌else◌, nat_eq, List, [], ◌∷◌, ◌++◌, map, codes, decimal, append_assoc, true≢false, Option, Some, None}
use Rattle.std.specs.Cmp.Lexicographic.{pointwise}
use Rattle.std.specs.List.{flat_map, list_any, AllByRecursion, onto_first}
use Rattle.std.proofs.lemmas.Bool.{cases_Bool, or_parts, or_from, or_cases, eqb-true, ltb-true}
use Rattle.std.proofs.lemmas.Bool.Decides.{nat_tests}
use Rattle.std.proofs.lemmas.List.Folds.{list_any-append}
use Rattle.rdf_terms.specs.Iri.{is_forbidden, has_forbidden, is_iri}
use Rattle.rdf_terms.specs.Literal.{xsd_string, tag_fits}
use Rattle.rdf_terms.specs.Term.{is_term}
use Rattle.rdf_terms.specs.TermText.{escaped, suffix_text, term_text}
use Rattle.rdf_terms.specs.Quad.{is_graph, is_quad}
use Rattle.rdf_terms.specs.declared.term.Term.{Term}
use Rattle.rdf_terms.specs.declared.term.Term.TheVariants.{Blank, Iri, Literal}
use Rattle.rdf_terms.specs.declared.quad.GraphName.{GraphName}
use Rattle.rdf_terms.specs.declared.quad.GraphName.TheVariants.{Default, Named}
use Rattle.rdf_terms.specs.declared.quad.Quad.{Quad}
use Rattle.rdf_terms.specs.LineEnds.{is_line_feed, is_return, is_line_end}
use Rattle.rdf_terms.proofs.CallerLemmas.{QuadTests, quad_tests, AllPass, tag_name, iri_allowed, is_digit, decimal_digits, tag_parts, literal_parts, by_escape}
use Rattle.rdf_lines.specs.declared.format.LineFormat.TheVariants.{NQuads}
use Rattle.rdf_lines.specs.Lines.{lines_behind, lines}
use Rattle.rdf_lines.specs.Document.{ReadsAll}
use Rattle.rdf_lines.specs.QuadText.{quad_text}
use Rattle.rdf_lines.specs.RoundTrip.{statement_of}
use Rattle.rdf_lines.proofs.WrittenTagLemmas.{tag_no_end}
use Rattle.rdf_lines.proofs.RoundTripLemmas.{end_text, line_of, quad_line, says_statement}

abbrev pub NoEnd : List ℕ → Type 0
NoEnd bs = list_any is_line_end bs ≡ false

both : (xs ys : List ℕ) → NoEnd xs → NoEnd ys → NoEnd (xs ++ ys)
both xs ys h k = list_any-append is_line_end xs ys ∙ or_from (list_any is_line_end xs) (list_any is_line_end ys) h k

from_each : (bs : List ℕ) → AllByRecursion (λ b. is_line_end b ≡ false) bs → NoEnd bs
from_each [] h = refl
from_each (b ∷ bs) h = or_from (is_line_end b) (list_any is_line_end bs) h.0 (from_each bs h.1)

-- ---- no term as written has a line end

digit_no_end : (c : ℕ) → is_digit c ≡ true → is_line_end c ≡ false
digit_no_end c h = grind (arith, nat_tests)

digits_no_end : (cs : List ℕ) → AllPass is_digit cs → AllByRecursion (λ b. is_line_end b ≡ false) cs
digits_no_end [] h = tt
digits_no_end (c ∷ cs) h = (digit_no_end c h.0, digits_no_end cs h.1)

feed_forbidden : is_forbidden 10 ≡ true
feed_forbidden = refl

return_forbidden : is_forbidden 13 ≡ true
return_forbidden = refl

end_forbidden : (c : ℕ) → is_line_end c ≡ true → is_forbidden c ≡ true
end_forbidden c h = elim (or_cases (is_line_feed c) (is_return c) h) [
  | inl feed ↦ ap is_forbidden (eqb-true c 10 feed) ∙ feed_forbidden
  | inr return ↦ ap is_forbidden (eqb-true c 13 return) ∙ return_forbidden
]

allowed_no_end : (bs : List ℕ) → has_forbidden bs ≡ false → NoEnd bs
allowed_no_end [] h = refl
allowed_no_end (b ∷ bs) h =
    let parts = or_parts (is_forbidden b) (has_forbidden bs) h in
    let here : is_line_end b ≡ false =
    elim (cases_Bool (is_line_end b)) [
      | inl end ↦ absurd (true≢false (sym (end_forbidden b end) ∙ parts.0))
      | inr other ↦ other
    ] in
    or_from (is_line_end b) (list_any is_line_end bs) here (allowed_no_end bs parts.1)

escape_no_end : (c : ℕ) → NoEnd (escaped c)
escape_no_end = by_escape (λ c piece. NoEnd piece) refl refl refl refl (λ c q b f r. or_from (is_line_end c) false (or_from (c == 10) (c == 13) f r) refl)

escapes_no_end : (text : List ℕ) → NoEnd (flat_map escaped text)
escapes_no_end [] = refl
escapes_no_end (c ∷ cs) = both (escaped c) (flat_map escaped cs) (escape_no_end c) (escapes_no_end cs)

around : (c d : ℕ) (text : List ℕ) → is_line_end c ≡ false → is_line_end d ≡ false → NoEnd text → NoEnd (c ∷ (text ++ d ∷ []))
around c d text h k n = both (c ∷ []) (text ++ d ∷ []) (or_from (is_line_end c) false h refl) (both text (d ∷ []) n (or_from (is_line_end d) false k refl))

iri_no_end : (iri : List ℕ) → is_iri iri ≡ true → NoEnd (60 ∷ (iri ++ 62 ∷ []))
iri_no_end iri h = around 60 62 iri refl refl (allowed_no_end iri (iri_allowed iri h))

suffix_no_end : (datatype : List ℕ) (tag : Option (List ℕ)) → is_iri datatype ≡ true → tag_fits datatype tag ≡ true → NoEnd (suffix_text datatype tag)
suffix_no_end datatype (Some tag) h k = both (64 ∷ []) tag refl (from_each tag (tag_no_end tag (tag_name tag (tag_parts datatype tag k).1)))
suffix_no_end datatype None h k = by (pointwise nat_eq datatype xsd_string)
  where
    by : (b : Bool) → NoEnd (if b then [] else codes "^^<" ++ datatype ++ codes ">")
    by true = refl
    by false = both (94 ∷ 94 ∷ []) (60 ∷ (datatype ++ 62 ∷ [])) refl (iri_no_end datatype h)

pub term_no_end : (t : Term) → is_term t ≡ true → NoEnd (term_text t)
term_no_end (Blank n) h = both (95 ∷ 58 ∷ 98 ∷ []) (decimal n) refl (from_each (decimal n) (digits_no_end (decimal n) (decimal_digits n (ltb-true n 18446744073709551616 h))))
term_no_end (Iri iri) h = iri_no_end iri h
term_no_end (Literal l) h =
    let p = literal_parts l h in
    both (34 ∷ (flat_map escaped l.lexical ++ 34 ∷ [])) (suffix_text l.datatype l.tag) (around 34 34 (flat_map escaped l.lexical) refl refl (escapes_no_end l.lexical)) (suffix_no_end l.datatype l.tag p.1 p.2)

spaced : (xs ys : List ℕ) → NoEnd xs → NoEnd ys → NoEnd (xs ++ 32 ∷ ys)
spaced xs ys h k = both xs (32 ∷ ys) h (both (32 ∷ []) ys refl k)

end_no_end : (g : GraphName) → is_graph g ≡ true → NoEnd (end_text g)
end_no_end Default h = refl
end_no_end (Named name) h = spaced (term_text name) (46 ∷ []) (term_no_end name h) refl

pub line_no_end : (q : Quad) → QuadTests q → NoEnd (line_of q)
line_no_end q t =
    let third = term_text q.object ++ 32 ∷ end_text q.graph in
    let second = term_text q.predicate ++ 32 ∷ third in
    spaced (term_text q.subject) second (term_no_end q.subject t.subject)
    (spaced (term_text q.predicate) third (term_no_end q.predicate t.predicate)
    (spaced (term_text q.object) (end_text q.graph) (term_no_end q.object t.object) (end_no_end q.graph t.graph)))

-- ---- the lines of a text

first_line : (line rest : List ℕ) → NoEnd line → lines_behind false (line ++ 10 ∷ rest) ≡ line ∷ lines_behind false rest
first_line [] rest h = refl
first_line (b ∷ line) rest h =
    let parts = or_parts (is_line_end b) (list_any is_line_end line) h in
    ap (λ v. if v then [] ∷ lines_behind (is_return b) (line ++ 10 ∷ rest) else onto_first b (lines_behind false (line ++ 10 ∷ rest))) parts.0
    ∙ ap (onto_first b) (first_line line rest parts.1)

quad_first : (q : Quad) (rest : List ℕ) → QuadTests q → lines (quad_text q ++ rest) ≡ line_of q ∷ lines rest
quad_first q rest t =
    ap (λ (x : List ℕ). lines (x ++ rest)) (quad_line q) ∙ ap lines (append_assoc (line_of q) (10 ∷ []) rest) ∙ first_line (line_of q) rest (line_no_end q t)

pub reads_all : (n : ℕ) (quads : List Quad) → AllByRecursion (λ q. is_quad q ≡ true) quads → ReadsAll NQuads n (lines (flat_map quad_text quads)) (map statement_of quads) None
reads_all n [] h = (refl, refl)
reads_all n (q ∷ quads) h =
    subst (λ (ls : List (List ℕ)). ReadsAll NQuads n ls (map statement_of (q ∷ quads)) None) (sym (quad_first q (flat_map quad_text quads) (quad_tests q h.0)))
    (inr (inl (statement_of q, map statement_of quads, says_statement q h.0, refl, reads_all (n + 1) quads h.1)))
