-- The lines of triples, one after the other, are cut into their tokens.
use Rattle.std.proofs.Common.{◌≡◌, ◌∙◌, ap, refl, sym, subst, ℕ, arith, true, List, [], ◌∷◌, ◌++◌, codes, chars, IsUtf8, append_assoc}
use Rattle.std.specs.List.{flat_map, AllByRecursion}
use Rattle.std.proofs.lemmas.Str.{chars-append, chars-nil, IsUtf8-append, IsUtf8-nil}
use Rattle.rdf_terms.specs.Term.{is_term}
use Rattle.rdf_terms.specs.TermText.{term_text}
use Rattle.rdf_terms.specs.declared.term.Term.{Term}
use Rattle.rdf_terms.specs.declared.quad.Quad.{Quad}
use Rattle.rdf_terms.proofs.CallerLemmas.{utf8_cons, chars_cons, QuadTests, quad_tests, term_utf8}
use Rattle.rdf_tokens.specs.declared.token.Kind.TheVariants as kind
use Rattle.rdf_turtle.specs.Document.{HasTokens}
use Rattle.rdf_turtle.specs.WrittenLaws.{triple_text, IsDefaultQuad}
use Rattle.rdf_turtle.proofs.WrittenTokens.{dot_token}
use Rattle.rdf_turtle.proofs.WrittenCuts.{Slice, Cut, HasList, lexemes_of, list_of, cut_white, cut_token, cut_end}
use Rattle.rdf_turtle.proofs.WrittenTerms.{term_slices, written_term}

-- ---- the line of a triple

-- the slices of a triple, and these behind them
abbrev pub triple_slices : Quad → List Slice → List Slice
triple_slices q ps = term_slices q.subject ++ (term_slices q.predicate ++ (term_slices q.object ++ (kind.Symbol, 46 ∷ []) ∷ ps))

abbrev pub document_slices : List Quad → List Slice
document_slices [] = []
document_slices (q ∷ quads) = triple_slices q (document_slices quads)

abbrev line : Quad → List ℕ → List ℕ
line q rest = term_text q.subject ++ 32 ∷ (term_text q.predicate ++ 32 ∷ (term_text q.object ++ 32 ∷ 46 ∷ 10 ∷ rest))

spaced : (xs ys zs : List ℕ) → ((xs ++ 32 ∷ []) ++ ys) ++ zs ≡ xs ++ 32 ∷ (ys ++ zs)
spaced xs ys zs = append_assoc (xs ++ 32 ∷ []) ys zs ∙ append_assoc xs (32 ∷ []) (ys ++ zs)

line_is : (q : Quad) (rest : List ℕ) → triple_text q ++ rest ≡ line q rest
line_is q rest = by (term_text q.subject) (term_text q.predicate) (term_text q.object)
  where
    by : (s p o : List ℕ) → (s ++ codes " " ++ p ++ codes " " ++ o ++ codes " .\n") ++ rest ≡ s ++ 32 ∷ (p ++ 32 ∷ (o ++ 32 ∷ 46 ∷ 10 ∷ rest))
    by s p o =
        append_assoc (((s ++ 32 ∷ []) ++ p) ++ 32 ∷ [] ++ o) (32 ∷ 46 ∷ 10 ∷ []) rest
        ∙ spaced ((s ++ 32 ∷ []) ++ p) o (32 ∷ 46 ∷ 10 ∷ rest)
        ∙ spaced s p (32 ∷ (o ++ 32 ∷ 46 ∷ 10 ∷ rest))

line_utf8 : (q : Quad) (rest : List ℕ) → QuadTests q → IsUtf8 rest → IsUtf8 (line q rest)
line_utf8 q rest t u =
    let end = utf8_cons 32 (46 ∷ 10 ∷ rest) (omega arith) (utf8_cons 46 (10 ∷ rest) (omega arith) (utf8_cons 10 rest (omega arith) u)) in
    let object = IsUtf8-append (term_text q.object) (32 ∷ 46 ∷ 10 ∷ rest) (term_utf8 q.object t.object) end in
    let third = utf8_cons 32 (term_text q.object ++ 32 ∷ 46 ∷ 10 ∷ rest) (omega arith) object in
    let predicate = IsUtf8-append (term_text q.predicate) (32 ∷ (term_text q.object ++ 32 ∷ 46 ∷ 10 ∷ rest)) (term_utf8 q.predicate t.predicate) third in
    let second = utf8_cons 32 (term_text q.predicate ++ 32 ∷ (term_text q.object ++ 32 ∷ 46 ∷ 10 ∷ rest)) (omega arith) predicate in
    IsUtf8-append (term_text q.subject) (32 ∷ (term_text q.predicate ++ 32 ∷ (term_text q.object ++ 32 ∷ 46 ∷ 10 ∷ rest))) (term_utf8 q.subject t.subject) second

-- a term, a space, and what follows
term_cut : (t : Term) (rest : List ℕ) (ps : List Slice) → is_term t ≡ true → Cut (chars rest) ps → Cut (chars (term_text t ++ 32 ∷ rest)) (term_slices t ++ ps)
term_cut t rest ps h cut =
    let same : chars (term_text t ++ 32 ∷ rest) ≡ chars (term_text t) ++ 32 ∷ chars rest =
    chars-append (term_text t) (32 ∷ rest) (term_utf8 t h) ∙ ap (λ (x : List ℕ). chars (term_text t) ++ x) (chars_cons 32 rest (omega arith)) in
    subst (λ (x : List ℕ). Cut x (term_slices t ++ ps)) (sym same) (written_term t h (chars rest) ps (cut_white 32 (chars rest) ps refl cut))

end_cut : (rest : List ℕ) (ps : List Slice) → Cut (chars rest) ps → Cut (chars (46 ∷ 10 ∷ rest)) ((kind.Symbol, 46 ∷ []) ∷ ps)
end_cut rest ps cut =
    let same : chars (46 ∷ 10 ∷ rest) ≡ 46 ∷ 10 ∷ chars rest = chars_cons 46 (10 ∷ rest) (omega arith) ∙ ap (λ (t : List ℕ). 46 ∷ t) (chars_cons 10 rest (omega arith)) in
    subst (λ (t : List ℕ). Cut t ((kind.Symbol, 46 ∷ []) ∷ ps)) (sym same)
    (cut_token kind.Symbol (46 ∷ []) (10 ∷ chars rest) ps (dot_token (chars rest)) (cut_white 10 (chars rest) ps refl cut))

line_cut : (q : Quad) (rest : List ℕ) (ps : List Slice) → QuadTests q → Cut (chars rest) ps → Cut (chars (line q rest)) (triple_slices q ps)
line_cut q rest ps t cut =
    term_cut q.subject _ _ t.subject
    (term_cut q.predicate _ _ t.predicate
    (term_cut q.object (46 ∷ 10 ∷ rest) ((kind.Symbol, 46 ∷ []) ∷ ps) t.object (end_cut rest ps cut)))

-- ---- all lines

all_utf8 : (quads : List Quad) → AllByRecursion IsDefaultQuad quads → IsUtf8 (flat_map triple_text quads)
all_utf8 [] h = IsUtf8-nil
all_utf8 (q ∷ quads) h = subst IsUtf8 (sym (line_is q (flat_map triple_text quads))) (line_utf8 q (flat_map triple_text quads) (quad_tests q h.0.0) (all_utf8 quads h.1))

all_cut : (quads : List Quad) → AllByRecursion IsDefaultQuad quads → Cut (chars (flat_map triple_text quads)) (document_slices quads)
all_cut [] h = subst (λ (t : List ℕ). Cut t []) (sym chars-nil) cut_end
all_cut (q ∷ quads) h =
    subst (λ (t : List ℕ). Cut (chars t) (triple_slices q (document_slices quads))) (sym (line_is q (flat_map triple_text quads)))
    (line_cut q (flat_map triple_text quads) (document_slices quads) (quad_tests q h.0.0) (all_cut quads h.1))

pub lines_list : (quads : List Quad) → AllByRecursion IsDefaultQuad quads
    → HasList (chars (flat_map triple_text quads)) (chars (flat_map triple_text quads)) (lexemes_of (document_slices quads))
lines_list quads h = list_of (chars (flat_map triple_text quads)) (chars (flat_map triple_text quads)) (document_slices quads) ([], refl) (all_cut quads h)

pub lines_tokens : (quads : List Quad) (h : AllByRecursion IsDefaultQuad quads) → HasTokens (flat_map triple_text quads) (lines_list quads h).tokens (lexemes_of (document_slices quads))
lines_tokens quads h = let l = lines_list quads h in record { utf8 = all_utf8 quads h; list = (l.rest, l.runs, l.ends); slices = l.slices }
