-- The quads of a document are well formed and in order, so their lines are read back.
use Rattle.std.proofs.Common.{◌≡◌, ap, refl, inl, inr, ℕ, ◌+◌, ◌*◌, ◌<◌, ◌≤◌, arith, true, not, List, [], ◌∷◌, ◌++◌, length, length-append, Contains, zero, suc}
use Rattle.std.specs.List.{flat_map, AllByRecursion}
use Rattle.std.proofs.lemmas.Bool.{and_from, and_parts, lt-ltb}
use Rattle.std.proofs.lemmas.List.Elements.{Contains-append_left, Contains-append_right, Contains-append_cases}
use Rattle.rdf_terms.specs.Blanks.{blanks_in, blanks_in_graph, blanks_of}
use Rattle.rdf_terms.specs.Quad.{QuadParts, has_right_kinds, is_graph, may_name_graph}
use Rattle.rdf_terms.specs.Term.{is_term, is_iri_term, is_literal_term}
use Rattle.rdf_terms.specs.declared.term.Term.{Term}
use Rattle.rdf_terms.specs.declared.term.Term.TheVariants.{Blank, Iri, Literal}
use Rattle.rdf_turtle.specs.Blanks.{IsTriple}
use Rattle.rdf_turtle.specs.ReadBack.{QuadsAreWellFormed, NumbersComeInOrder, DocumentsAreReadBack}
use Rattle.rdf_turtle.specs.WrittenLaws.{IsDefaultQuad}
use Rattle.rdf_turtle.proofs.BaseDocuments.{quads_well}
use Rattle.rdf_turtle.proofs.BaseSteps.{WellTerm, WellQuad}
use Rattle.rdf_turtle.proofs.ScopeBlanks.{numbers, numbers_in_order}
use Rattle.rdf_turtle.proofs.WrittenDocuments.{written_triples_are_turtle}
use Rattle.rdf_turtle.proofs.WrittenNumbers.{Follows, follows}

pub in_order : NumbersComeInOrder
in_order base text quads d = numbers_in_order base d.0 quads d.2

-- ---- numbers of 64 bits

-- a number that comes in order is less than the numbers before it are many
follows_below : (xs : List ℕ) (n m : ℕ) → Follows n xs m → (k : ℕ) → Contains xs k → k < n + length xs
follows_below [] n m h k c = absurd (omega (arith, c.1))
follows_below (x ∷ xs) n m h k c = elim (Contains-append_cases (x ∷ []) xs k c) [
  | inl here ↦ (let is : x ≡ k = first here in elim h [ inl old ↦ (let l : x < n = old.0 in omega (arith, is, l)) | inr new ↦ (let e : x ≡ n = new.0 in omega (arith, is, e)) ])
  | inr there ↦ elim h [
    | inl old ↦ (let l : k < n + length xs = follows_below xs n m old.1 k there in omega (arith, l))
    | inr new ↦ (let l : k < n + 1 + length xs = follows_below xs (n + 1) m new.1 k there in omega (arith, l))
  ]
]
  where
    first : Contains (x ∷ []) k → x ≡ k
    first (zero, short, at) = at
    first (suc i, short, at) = absurd (let z : suc i < length (x ∷ []) = short in omega (arith, z))

one_blank : (x : Term) → length (blanks_in x) ≤ 1
one_blank (Blank n) = omega arith
one_blank (Iri i) = omega arith
one_blank (Literal w) = omega arith

two_blanks : (q : QuadParts) → IsTriple q → length (blanks_of q) ≤ 2
two_blanks q h =
    let none : length (blanks_in_graph q.graph) ≡ 0 = ap (λ g. length (blanks_in_graph g)) h.1 in
    let a : length (blanks_in q.subject) ≤ 1 = one_blank q.subject in
    let b : length (blanks_in q.object) ≤ 1 = one_blank q.object in
    simp length-append (omega (arith, none, a, b))

blanks_few : (quads : List QuadParts) → AllByRecursion IsTriple quads → length (flat_map blanks_of quads) ≤ 2 * length quads
blanks_few [] h = omega arith
blanks_few (q ∷ quads) h =
    let here : length (blanks_of q) ≤ 2 = two_blanks q h.0 in
    let rest : length (flat_map blanks_of quads) ≤ 2 * length quads = blanks_few quads h.1 in
    let both : length (blanks_of q ++ flat_map blanks_of quads) ≡ length (blanks_of q) + length (flat_map blanks_of quads) = length-append (blanks_of q) (flat_map blanks_of quads) in
    omega (arith, here, rest, both)

-- ---- well formed quads

abbrev Small : List ℕ → Type 0
Small numbers = (k : ℕ) → Contains numbers k → k < 18446744073709551616

term_by : (x : Term) → WellTerm x → Small (blanks_in x) → is_term x ≡ true
term_by (Blank n) h small = lt-ltb n 18446744073709551616 (small n (0, (let z : 0 < length (n ∷ []) = omega arith in z), refl))
term_by (Iri i) h small = h
term_by (Literal w) h small = h

-- a predicate is an IRI
kinds : (q : QuadParts) → has_right_kinds q ≡ true → is_iri_term q.predicate ≡ true
kinds q h = (and_parts (not (is_literal_term q.subject)) (is_iri_term q.predicate) (and_parts (may_name_graph q.graph) _ h).1).1

predicate_small : (x : Term) → is_iri_term x ≡ true → Small (blanks_in x)
predicate_small (Blank n) h k c = absurd (cc h)
predicate_small (Iri i) h k c = absurd (omega (arith, c.1))
predicate_small (Literal w) h k c = absurd (cc h)

quad_by : (q : QuadParts) → WellQuad q → IsTriple q → Small (blanks_of q) → IsDefaultQuad q
quad_by q w h small =
    let both : Small (blanks_in q.subject ++ blanks_in q.object) = λ k c. small k (Contains-append_left (blanks_in q.subject ++ blanks_in q.object) (blanks_in_graph q.graph) k c) in
    let subject : is_term q.subject ≡ true = term_by q.subject w.subject (λ k c. both k (Contains-append_left (blanks_in q.subject) (blanks_in q.object) k c)) in
    let object : is_term q.object ≡ true = term_by q.object w.object (λ k c. both k (Contains-append_right (blanks_in q.subject) (blanks_in q.object) k c)) in
    let predicate : is_term q.predicate ≡ true = term_by q.predicate w.predicate (predicate_small q.predicate (kinds q h.0)) in
    (and_from (has_right_kinds q) _ h.0 (and_from (is_graph q.graph) _ (ap is_graph h.1) (and_from (is_term q.subject) _ subject (and_from (is_term q.predicate) _ predicate object))), h.1)

quads_by : (quads : List QuadParts) → AllByRecursion WellQuad quads → AllByRecursion IsTriple quads → Small (flat_map blanks_of quads) → AllByRecursion IsDefaultQuad quads
quads_by [] w h small = tt
quads_by (q ∷ quads) w h small = (
  quad_by q w.0 h.0 (λ k c. small k (Contains-append_left (blanks_of q) (flat_map blanks_of quads) k c)),
  quads_by quads w.1 h.1 (λ k c. small k (Contains-append_right (blanks_of q) (flat_map blanks_of quads) k c)),
)

pub well_formed : QuadsAreWellFormed
well_formed base text quads iri few d =
    let triples = (numbers base d.0 quads d.2).2 in
    let order = follows quads (numbers_in_order base d.0 quads d.2) in
    let some : length (flat_map blanks_of quads) ≤ 2 * length quads = blanks_few quads triples in
    quads_by quads (quads_well base text d.0 quads iri d.1 d.2) triples
    (λ k c. (let l : k < 0 + length (flat_map blanks_of quads) = follows_below (flat_map blanks_of quads) 0 order.0 order.1 k c in omega (arith, l, some, few)))

pub read_back : DocumentsAreReadBack
read_back base other text quads iri few d = written_triples_are_turtle other quads (well_formed base text quads iri few d) (in_order base text quads d)
