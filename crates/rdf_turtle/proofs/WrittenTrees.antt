-- The grammar derives the tree of written triples, in which no bracket opens.
use Rattle.std.proofs.Common.{◌≡◌, ◌∙◌, ◌⊎◌, ap, refl, sym, inl, inr, ℕ, zero, suc, arith, Bool, true, false, if◌then◌else◌, List, [], ◌∷◌, ◌++◌, codes, map, take, nat_eq, true≢false, Option, Some, None}
use Rattle.std.specs.Char.{encode_utf8}
use Rattle.std.specs.Cmp.Lexicographic.{pointwise}
use Rattle.std.specs.List.{AllByRecursion}
use Rattle.std.specs.Str.{bytes_eq, encode_utf8_all}
use Rattle.rdf_terms.specs.Literal.{xsd_string}
use Rattle.rdf_terms.specs.Term.{is_literal_term, is_iri_term}
use Rattle.rdf_terms.specs.declared.term.Term.{Term}
use Rattle.rdf_terms.specs.declared.term.Term.TheVariants as t
use Rattle.rdf_terms.specs.declared.quad.Quad.{Quad}
use Rattle.rdf_terms.proofs.CallerLemmas.{QuadTests, quad_tests}
use Rattle.rdf_turtle.specs.declared.terminal.Terminal.{Terminal}
use Rattle.rdf_turtle.specs.declared.terminal.Terminal.TheVariants as terminal
use Rattle.rdf_tokens.specs.declared.token.Kind.TheVariants as kind
use Rattle.rdf_grammar.specs.declared.tree.Name.TheVariants.{Full}
use Rattle.rdf_turtle.specs.declared.tree.Verb.{Verb}
use Rattle.rdf_turtle.specs.declared.tree.Verb.TheVariants as v
use Rattle.rdf_grammar.specs.declared.tree.Literal.{Literal}
use Rattle.rdf_grammar.specs.declared.tree.Literal.TheVariants as l
use Rattle.rdf_turtle.specs.declared.tree.Node.{Node}
use Rattle.rdf_turtle.specs.declared.tree.Node.TheVariants as n
use Rattle.rdf_turtle.specs.declared.tree.Property.{Property}
use Rattle.rdf_turtle.specs.declared.tree.Statement.{Statement}
use Rattle.rdf_turtle.specs.declared.tree.Statement.TheVariants as s
use Rattle.rdf_turtle.specs.Lexemes.{Derives, Lexemes}
use Rattle.rdf_grammar.specs.Derivations.{Then, stop, more}
use Rattle.rdf_turtle.specs.Grammar as g
use Rattle.rdf_turtle.specs.Terminals.{at_word_terminal, terminal_of, word}
use Rattle.rdf_grammar.specs.declared.word.Word.TheVariants as w
use Rattle.rdf_grammar.specs.Productions as productions
use Rattle.rdf_turtle.specs.Nesting.{open_behind, open_after, IsTooDeep}
use Rattle.rdf_turtle.specs.Grammar.{property_with}
use Rattle.rdf_turtle.specs.WrittenLaws.{IsDefaultQuad}
use Rattle.rdf_turtle.proofs.WrittenCuts.{Slice, lexeme_of, lexemes_of}
use Rattle.rdf_turtle.proofs.WrittenTerms.{iri_slice, text_slice, label_slice, tag_slice, datatype_slices, suffix_slices, term_slices}
use Rattle.rdf_turtle.proofs.WrittenLines.{triple_slices, document_slices}

-- ---- the tree

abbrev pub datatype_tree : Bool → List ℕ → List ℕ → Literal
datatype_tree true lexical datatype = l.Plain (text_slice lexical)
datatype_tree false lexical datatype = l.Typed (text_slice lexical) (Full (iri_slice datatype))

abbrev pub literal_tree : List ℕ → List ℕ → Option (List ℕ) → Literal
literal_tree lexical datatype (Some tag) = l.Tagged (text_slice lexical) (tag_slice tag)
literal_tree lexical datatype None = datatype_tree (pointwise nat_eq datatype xsd_string) lexical datatype

abbrev pub node_of : Term → Node
node_of (t.Blank number) = n.Label (label_slice number)
node_of (t.Iri iri) = n.Name (Full (iri_slice iri))
node_of (t.Literal w) = n.Literal (literal_tree w.lexical w.datatype w.tag)

-- a predicate is an IRI, so what this gives other terms never counts
abbrev pub verb_of : Term → Verb
verb_of (t.Iri iri) = v.Name (Full (iri_slice iri))
verb_of other = v.Type

abbrev pub statement_of : Quad → Statement
statement_of q = s.Triples (node_of q.subject) (property_with (verb_of q.predicate) (node_of q.object ∷ []) ∷ [])

-- ---- terminals

dot_terminal : terminal_of kind.Symbol (46 ∷ []) ≡ terminal.Dot
unfolding encode_utf8
dot_terminal = refl

caret_terminal : terminal_of kind.Symbol (94 ∷ 94 ∷ []) ≡ terminal.Caret
unfolding encode_utf8
caret_terminal = refl

abbrev IsTagTerminal : Terminal → Type 0
IsTagTerminal k = (k ≡ terminal.AtWord) ⊎ ((k ≡ terminal.AtPrefix) ⊎ (k ≡ terminal.AtBase))

tag_terminal : (text : List ℕ) → IsTagTerminal (at_word_terminal text)
tag_terminal text = by (bytes_eq text (codes "@prefix")) (bytes_eq text (codes "@base"))
  where
    by : (a b : Bool) → IsTagTerminal (if a then terminal.AtPrefix else if b then terminal.AtBase else terminal.AtWord)
    by true b = inr (inl refl)
    by false true = inr (inr refl)
    by false false = inl refl

-- ---- terms

then_from : {A B : Type 0} {P : Derives A} {F : A → Derives B} {ts us : Lexemes} {b : B} (a : A) (mid : Lexemes) → P ts a mid → F a mid b us → Then P F ts b us
then_from a mid p f = record { first = a; mid = mid; reads = p; goes = f }

-- one lexeme, made into something
made_from : {A B : Type 0} {P : Derives A} {ts us : Lexemes} (f : A → B) (a : A) → P ts a us → Then P (λ x ts b us. (f x ≡ b) × (ts ≡ us)) ts (f a) us
made_from {us = us} f a p = then_from a us p (refl, refl)

iri_derives : (iri : List ℕ) (us : Lexemes) → g.Iri (lexeme_of (kind.Iri, iri_slice iri) ∷ us) (Full (iri_slice iri)) us
iri_derives iri us = inl (made_from Full (iri_slice iri) (lexeme_of (kind.Iri, iri_slice iri), refl, refl, refl))

tag_word : (text : List ℕ) → word (at_word_terminal text) ≡ Some w.Tag
tag_word text =
    elim (tag_terminal text) [
      | inl e ↦ ap word e
      | inr (inl e) ↦ ap word e
      | inr (inr e) ↦ ap word e
    ]

tag_derives : (tag : List ℕ) (us : Lexemes) → productions.value word w.Tag (lexeme_of (kind.AtWord, tag_slice tag) ∷ us) (tag_slice tag) us
tag_derives tag us = (lexeme_of (kind.AtWord, tag_slice tag), tag_word (encode_utf8_all (tag_slice tag)), refl, refl)

typed_derives : (form : List ℕ) (datatype : List ℕ) (us : Lexemes)
    → productions.Suffix word form (lexeme_of (kind.Symbol, 94 ∷ 94 ∷ []) ∷ lexeme_of (kind.Iri, iri_slice datatype) ∷ us) (l.Typed form (Full (iri_slice datatype))) us
typed_derives form datatype us =
    inr (inl (then_from tt (lexeme_of (kind.Iri, iri_slice datatype) ∷ us) (lexeme_of (kind.Symbol, 94 ∷ 94 ∷ []), ap word caret_terminal, refl) (made_from (l.Typed form) (Full (iri_slice datatype)) (iri_derives datatype us))))

suffix_derives : (lexical datatype : List ℕ) (tag : Option (List ℕ)) (ps : List Slice)
    → productions.Suffix word (text_slice lexical) (lexemes_of (suffix_slices datatype tag ++ ps)) (literal_tree lexical datatype tag) (lexemes_of ps)
suffix_derives lexical datatype (Some tag) ps = inl (made_from (l.Tagged (text_slice lexical)) (tag_slice tag) (tag_derives tag (lexemes_of ps)))
suffix_derives lexical datatype None ps = by (pointwise nat_eq datatype xsd_string)
  where
    by : (b : Bool) → productions.Suffix word (text_slice lexical) (lexemes_of (datatype_slices b datatype ++ ps)) (datatype_tree b lexical datatype) (lexemes_of ps)
    by true = inr (inr (refl, refl))
    by false = typed_derives (text_slice lexical) datatype (lexemes_of ps)

literal_derives : (lexical datatype : List ℕ) (tag : Option (List ℕ)) (ps : List Slice)
    → g.ALiteral (lexemes_of ((kind.Text, text_slice lexical) ∷ (suffix_slices datatype tag ++ ps))) (literal_tree lexical datatype tag) (lexemes_of ps)
literal_derives lexical datatype tag ps =
    inl (then_from (text_slice lexical) (lexemes_of (suffix_slices datatype tag ++ ps)) (lexeme_of (kind.Text, text_slice lexical), refl, refl, refl) (suffix_derives lexical datatype tag ps))

label_derives : (number : ℕ) (us : Lexemes) (inner : Derives Node) → g.Blank inner (lexeme_of (kind.BlankLabel, label_slice number) ∷ us) (n.Label (label_slice number)) us
label_derives number us inner = inl (made_from n.Label (label_slice number) (lexeme_of (kind.BlankLabel, label_slice number), refl, refl, refl))

object_derives : (inner : Derives Node) (x : Term) (ps : List Slice) → g.Object inner (lexemes_of (term_slices x ++ ps)) (node_of x) (lexemes_of ps)
object_derives inner (t.Blank number) ps = inr (inl (label_derives number (lexemes_of ps) inner))
object_derives inner (t.Iri iri) ps = inl (made_from n.Name (Full (iri_slice iri)) (iri_derives iri (lexemes_of ps)))
object_derives inner (t.Literal w) ps = inr (inr (inr (inr (made_from n.Literal (literal_tree w.lexical w.datatype w.tag) (literal_derives w.lexical w.datatype w.tag ps)))))

subject_derives : (inner : Derives Node) (x : Term) (ps : List Slice) → is_literal_term x ≡ false → g.Subject inner (lexemes_of (term_slices x ++ ps)) (node_of x) (lexemes_of ps)
subject_derives inner (t.Blank number) ps h = inr (inl (label_derives number (lexemes_of ps) inner))
subject_derives inner (t.Iri iri) ps h = inl (made_from n.Name (Full (iri_slice iri)) (iri_derives iri (lexemes_of ps)))
subject_derives inner (t.Literal w) ps h = absurd (true≢false h)

verb_derives : (x : Term) (ps : List Slice) → is_iri_term x ≡ true → g.AVerb (lexemes_of (term_slices x ++ ps)) (verb_of x) (lexemes_of ps)
verb_derives (t.Iri iri) ps h = inl (made_from v.Name (Full (iri_slice iri)) (iri_derives iri (lexemes_of ps)))
verb_derives (t.Blank number) ps h = absurd (true≢false (sym h))
verb_derives (t.Literal w) ps h = absurd (true≢false (sym h))

-- ---- statements

module _ (inner object : Derives Node) (reads : (x : Term) (ps : List Slice) → object (lexemes_of (term_slices x ++ ps)) (node_of x) (lexemes_of ps)) where
  objects_derive : (x : Term) (ps : List Slice) → g.Objects object (lexemes_of (term_slices x ++ ps)) (node_of x ∷ []) (lexemes_of ps)
  objects_derive x ps = then_from (node_of x) (lexemes_of ps) (reads x ps) (then_from [] (lexemes_of ps) stop (refl, refl))

  property_derives : (p x : Term) (ps : List Slice) → is_iri_term p ≡ true
      → g.VerbObjects object (lexemes_of (term_slices p ++ (term_slices x ++ ps))) (property_with (verb_of p) (node_of x ∷ [])) (lexemes_of ps)
  property_derives p x ps h =
      then_from (verb_of p) (lexemes_of (term_slices x ++ ps)) (verb_derives p (term_slices x ++ ps) h)
      (then_from (node_of x ∷ []) (lexemes_of ps) (objects_derive x ps) (refl, refl))

  properties_derive : (p x : Term) (ps : List Slice) → is_iri_term p ≡ true
      → g.PredicateObjectList object (lexemes_of (term_slices p ++ (term_slices x ++ ps))) (property_with (verb_of p) (node_of x ∷ []) ∷ []) (lexemes_of ps)
  properties_derive p x ps h =
      then_from (property_with (verb_of p) (node_of x ∷ [])) (lexemes_of ps) (property_derives p x ps h) (then_from [] (lexemes_of ps) stop (refl, refl))

  statement_derives : (q : Quad) (ps : List Slice) → QuadTests q → g.AStatement inner object (lexemes_of (triple_slices q ps)) (statement_of q) (lexemes_of ps)
  statement_derives q ps h =
      let dot = (kind.Symbol, 46 ∷ []) ∷ ps in
      let about = term_slices q.predicate ++ (term_slices q.object ++ dot) in
      let properties : List Property = property_with (verb_of q.predicate) (node_of q.object ∷ []) ∷ [] in
      let triples : g.Triples inner object (lexemes_of (triple_slices q ps)) (statement_of q) (lexemes_of dot) =
      inl (then_from (node_of q.subject) (lexemes_of about) (subject_derives inner q.subject about h.subject_kind)
      (then_from properties (lexemes_of dot) (properties_derive q.predicate q.object dot h.predicate_kind) (refl, refl))) in
      inr (then_from (statement_of q) (lexemes_of dot) triples (then_from tt (lexemes_of ps) (lexeme_of (kind.Symbol, 46 ∷ []), dot_terminal, refl) (refl, refl)))

pub document_derives : (quads : List Quad) → AllByRecursion IsDefaultQuad quads → g.IsDocument (lexemes_of (document_slices quads)) (map statement_of quads)
document_derives quads h = (0, all quads h)
  where
    all : (quads : List Quad) → AllByRecursion IsDefaultQuad quads → g.Document 0 (lexemes_of (document_slices quads)) (map statement_of quads) []
    all [] h = stop
    all (q ∷ quads) h =
        more (made_from (λ x. x ∷ []) (statement_of q) (statement_derives (g.Objects_at 0) (g.Objects_at 1) (λ x ps. object_derives (g.Objects_at 0) x ps) q (document_slices quads) (quad_tests q h.0.0))) (all quads h.1)

-- ---- no bracket opens

abbrev Flat : Slice → Type 0
Flat p = (k : ℕ) → open_behind k (terminal_of p.0 p.1) ≡ k

by_terminal : (k : ℕ) (one same : Terminal) → one ≡ same → open_behind k same ≡ k → open_behind k one ≡ k
by_terminal k one same e h = ap (open_behind k) e ∙ h

symbol_flat : (slice : List ℕ) (same : Terminal) → terminal_of kind.Symbol slice ≡ same → ((k : ℕ) → open_behind k same ≡ k) → Flat (kind.Symbol, slice)
symbol_flat slice same e h k = by_terminal k (terminal_of kind.Symbol slice) same e (h k)

tag_flat : (tag : List ℕ) → Flat (kind.AtWord, tag_slice tag)
tag_flat tag k =
    let here = at_word_terminal (encode_utf8_all (tag_slice tag)) in
    elim (tag_terminal (encode_utf8_all (tag_slice tag))) [
      | inl word ↦ by_terminal k here terminal.AtWord word refl
      | inr (inl prefix) ↦ by_terminal k here terminal.AtPrefix prefix refl
      | inr (inr base) ↦ by_terminal k here terminal.AtBase base refl
    ]

suffix_flat : (datatype : List ℕ) (tag : Option (List ℕ)) (ps : List Slice) → AllByRecursion Flat ps → AllByRecursion Flat (suffix_slices datatype tag ++ ps)
suffix_flat datatype (Some tag) ps h = (tag_flat tag, h)
suffix_flat datatype None ps h = by (pointwise nat_eq datatype xsd_string)
  where
    by : (b : Bool) → AllByRecursion Flat (datatype_slices b datatype ++ ps)
    by true = h
    by false = (symbol_flat (94 ∷ 94 ∷ []) terminal.Caret caret_terminal (λ k. refl), (λ k. refl, h))

term_flat : (x : Term) (ps : List Slice) → AllByRecursion Flat ps → AllByRecursion Flat (term_slices x ++ ps)
term_flat (t.Blank number) ps h = (λ k. refl, h)
term_flat (t.Iri iri) ps h = (λ k. refl, h)
term_flat (t.Literal w) ps h = (λ k. refl, suffix_flat w.datatype w.tag ps h)

all_flat : (quads : List Quad) → AllByRecursion Flat (document_slices quads)
all_flat [] = tt
all_flat (q ∷ quads) =
    term_flat q.subject _ (term_flat q.predicate _ (term_flat q.object _ (symbol_flat (46 ∷ []) terminal.Dot dot_terminal (λ k. refl), all_flat quads)))

none_open : (ps : List Slice) (m k : ℕ) → AllByRecursion Flat ps → open_after k (take m (lexemes_of ps)) ≡ k
none_open [] zero k h = refl
none_open [] (suc m) k h = refl
none_open (p ∷ ps) zero k h = refl
none_open (p ∷ ps) (suc m) k h = ap (λ j. open_after j (take m (lexemes_of ps))) (h.0 k) ∙ none_open ps m k h.1

pub document_shallow : (quads : List Quad) → ¬ (IsTooDeep (lexemes_of (document_slices quads)))
document_shallow quads deep = omega (arith, deep.1, none_open (document_slices quads) deep.0 0 (all_flat quads))
