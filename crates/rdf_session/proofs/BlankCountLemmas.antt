-- The blank numbers of a document are just those below its limit.
use Rattle.std.proofs.Common.{◌≡◌, ◌⊎◌, inl, inr, ℕ, zero, suc, ◌+◌, ◌<◌, ◌≤◌, Bool, true, false, not, ◌&&◌, List, [], ◌∷◌, ◌++◌, get_or, Option, None, refl, sym, ap, ◌∙◌, subst, arith, Contains, IsTrue}
use Rattle.std.specs.Prelude.{max}
use Rattle.std.specs.List.{AllByRecursion, flat_map}
use Rattle.std.proofs.lemmas.Bool.Decides.{leb_tells}
use mathlib.Core.Bool.{true≢false}
use Rattle.std.proofs.lemmas.List.Elements.{Contains-append_left, Contains-append_right, Contains-append_cases}
use Rattle.rdf_dataset.specs.State.{State, last_number}
use Rattle.rdf_lines.specs.Blanks as line_blanks
use Rattle.rdf_lines.specs.declared.format.LineFormat.{LineFormat}
use Rattle.rdf_lines.specs.declared.format.LineFormat.TheVariants as line
use Rattle.rdf_lines.specs.Document as lines
use Rattle.rdf_turtle.specs.Blanks as turtle_blanks
use Rattle.rdf_terms.specs.Blanks.{blanks_in, blanks_in_graph, blanks_of}
use Rattle.rdf_terms.specs.Quad.{QuadParts, has_right_kinds, may_name_graph}
use Rattle.rdf_terms.specs.Term.{is_iri_term, is_literal_term}
use Rattle.rdf_terms.specs.declared.quad.GraphName.{GraphName}
use Rattle.rdf_terms.specs.declared.quad.GraphName.TheVariants.{Default, Named}
use Rattle.rdf_terms.specs.declared.term.Term.{Term}
use Rattle.rdf_terms.specs.declared.term.Term.TheVariants.{Blank, Iri, Literal}
use Rattle.rdf_session.proofs.OneReplyLemmas.{one_document}
use Rattle.rdf_session.specs.Inside.ReaderLaws.{ReaderLaws}
use Rattle.rdf_session.specs.BlankCount.{HasBlankCount, LimitIsTheCount, LoadTakesTheCount, LoadWantsTheCount}
use Rattle.rdf_session.specs.Documents.{IsDocument}
use Rattle.rdf_session.specs.Request.{blank_limit, graph_limit, quad_limit, term_limit}
use Rattle.rdf_session.specs.declared.format.Format.{Format}
use Rattle.rdf_session.specs.declared.format.Format.TheVariants.{NQuads, NTriples, Turtle}

-- ---- limits are least

least : (a b k : ℕ) → a ≤ k → b ≤ k → max a b ≤ k
least a b k h g = omega (arith, h, g)

-- all these numbers lie below k
abbrev Below : List ℕ → ℕ → Type 0
Below numbers k = (x : ℕ) → Contains numbers x → x < k

below_left : (xs ys : List ℕ) (k : ℕ) → Below (xs ++ ys) k → Below xs k
below_left xs ys k h x c = h x (Contains-append_left xs ys x c)

below_right : (xs ys : List ℕ) (k : ℕ) → Below (xs ++ ys) k → Below ys k
below_right xs ys k h x c = h x (Contains-append_right xs ys x c)

below_both : (xs ys : List ℕ) (k : ℕ) → Below xs k → Below ys k → Below (xs ++ ys) k
below_both xs ys k h g x c = elim (Contains-append_cases xs ys x c) [ inl here ↦ h x here | inr there ↦ g x there ]

below_none : (k : ℕ) → Below [] k
below_none k x c = absurd (omega (arith, c.1))

below_more : (numbers : List ℕ) (j k : ℕ) → j ≤ k → Below numbers j → Below numbers k
below_more numbers j k h g x c = let lt = g x c in omega (arith, lt, h)

one_below : (number k : ℕ) → number < k → Below (number ∷ []) k
one_below number k h x c = subst (λ y. y < k) (only c.0 c.1 c.2) h
  where
    only : (i : ℕ) → i < 1 → get_or (number ∷ []) i x ≡ x → number ≡ x
    only zero lt e = e
    only (suc i) lt e = absurd (omega (arith, lt))

term_below : (t : Term) → Below (blanks_in t) (term_limit t)
term_below (Blank number) = one_below number (number + 1) (omega arith)
term_below (Iri iri) = below_none 0
term_below (Literal literal) = below_none 0

term_least : (t : Term) (k : ℕ) → Below (blanks_in t) k → term_limit t ≤ k
term_least (Blank number) k h = let lt = h number (0, omega arith, refl) in omega (arith, lt)
term_least (Iri iri) k h = omega arith
term_least (Literal literal) k h = omega arith

graph_below : (g : GraphName) → Below (blanks_in_graph g) (graph_limit g)
graph_below Default = below_none 0
graph_below (Named name) = term_below name

graph_least : (g : GraphName) (k : ℕ) → Below (blanks_in_graph g) k → graph_limit g ≤ k
graph_least Default k h = omega arith
graph_least (Named name) k h = term_least name k h

abbrev ends_of : QuadParts → List ℕ
ends_of q = blanks_in q.subject ++ blanks_in q.object

quad_below : (q : QuadParts) → Below (blanks_of q) (quad_limit q)
quad_below q =
    below_both (ends_of q) (blanks_in_graph q.graph) (quad_limit q)
    (below_both (blanks_in q.subject) (blanks_in q.object) (quad_limit q)
    (below_more (blanks_in q.subject) (term_limit q.subject) (quad_limit q) (omega arith) (term_below q.subject))
    (below_more (blanks_in q.object) (term_limit q.object) (quad_limit q) (omega arith) (term_below q.object)))
    (below_more (blanks_in_graph q.graph) (graph_limit q.graph) (quad_limit q) (omega arith) (graph_below q.graph))

iri_limit : (t : Term) → is_iri_term t ≡ true → term_limit t ≡ 0
iri_limit (Blank number) e = absurd (true≢false (sym e))
iri_limit (Iri iri) e = refl
iri_limit (Literal literal) e = refl

quad_least : (q : QuadParts) (k : ℕ) → is_iri_term q.predicate ≡ true → Below (blanks_of q) k → quad_limit q ≤ k
quad_least q k iri h =
    let ends = below_left (ends_of q) (blanks_in_graph q.graph) k h in
    let subject = term_least q.subject k (below_left (blanks_in q.subject) (blanks_in q.object) k ends) in
    let object = term_least q.object k (below_right (blanks_in q.subject) (blanks_in q.object) k ends) in
    let graph = graph_least q.graph k (below_right (ends_of q) (blanks_in_graph q.graph) k h) in
    let predicate = iri_limit q.predicate iri in
    omega (arith, subject, object, graph, predicate)

abbrev HasIri : QuadParts → Type 0
HasIri q = is_iri_term q.predicate ≡ true

quads_below : (quads : List QuadParts) → Below (flat_map blanks_of quads) (blank_limit quads)
quads_below [] = below_none 0
quads_below (q ∷ qs) =
    below_both (blanks_of q) (flat_map blanks_of qs) (blank_limit (q ∷ qs))
    (below_more (blanks_of q) (quad_limit q) (blank_limit (q ∷ qs)) (omega arith) (quad_below q))
    (below_more (flat_map blanks_of qs) (blank_limit qs) (blank_limit (q ∷ qs)) (omega arith) (quads_below qs))

quads_least : (quads : List QuadParts) (k : ℕ) → AllByRecursion HasIri quads → Below (flat_map blanks_of quads) k → blank_limit quads ≤ k
quads_least [] k iris h = omega arith
quads_least (q ∷ qs) k iris h =
    least (quad_limit q) (blank_limit qs) k
    (quad_least q k iris.0 (below_left (blanks_of q) (flat_map blanks_of qs) k h))
    (quads_least qs k iris.1 (below_right (blanks_of q) (flat_map blanks_of qs) k h))

-- ---- the one count

one_count : (quads : List QuadParts) (count : ℕ) → AllByRecursion HasIri quads → HasBlankCount quads count → count ≡ blank_limit quads
one_count quads count iris has =
    let under = quads_least quads count iris (λ x c. (has x).1 c) in
    elim (order (blank_limit quads) count) [
      | inl less ↦ let own = quads_below quads (blank_limit quads) ((has (blank_limit quads)).0 less) in absurd (omega (arith, own))
      | inr not_less ↦ omega (arith, under, not_less)
    ]
  where
    order : (a b : ℕ) → (a < b) ⊎ (b ≤ a)
    order a b = elim (leb_tells b a) [ inl h ↦ inr h.1 | inr h ↦ inl h.1 ]

-- some count, and IRIs for predicates
abbrev Counted : List QuadParts → Type 0
Counted quads = (count : ℕ) × HasBlankCount quads count × AllByRecursion HasIri quads

right_iri : (q : QuadParts) → IsTrue (has_right_kinds q) → HasIri q
right_iri q h = second (not (is_literal_term q.subject)) (is_iri_term q.predicate) (second (may_name_graph q.graph) (not (is_literal_term q.subject) && is_iri_term q.predicate) h)
  where
    second : (x y : Bool) → (x && y) ≡ true → y ≡ true
    second true y e = e
    second false y e = absurd (true≢false (sym e))

line_iris : (quads : List QuadParts) → AllByRecursion (λ q. IsTrue (has_right_kinds q)) quads → AllByRecursion HasIri quads
line_iris [] h = tt
line_iris (q ∷ qs) h = (right_iri q h.0, line_iris qs h.1)

turtle_iris : (quads : List QuadParts) → AllByRecursion turtle_blanks.IsTriple quads → AllByRecursion HasIri quads
turtle_iris [] h = tt
turtle_iris (q ∷ qs) h = (right_iri q h.0.0, turtle_iris qs h.1)

module _ (line_law : line_blanks.BlankNumbersAreBelow) (turtle_law : turtle_blanks.BlankNumbersAreBelow) where
  in_lines : (format : LineFormat) (text : List ℕ) (quads : List QuadParts) → lines.IsDocument format text quads None → Counted quads
  in_lines format text quads is = let law = line_law format text quads None is in (_, law.3, line_iris quads law.4)

  counted : (format : Format) (base : Option (List ℕ)) (text : List ℕ) (quads : List QuadParts) → IsDocument format base text quads → Counted quads
  counted NQuads base text quads is = in_lines line.NQuads text quads is
  counted NTriples base text quads is = in_lines line.NTriples text quads is
  counted Turtle base text quads is = let law = turtle_law base is.0 quads is.2 in (law.0, law.1, turtle_iris quads law.2)

  pub limit_is_the_count : LimitIsTheCount
  limit_is_the_count format base text quads is =
      let all = counted format base text quads is in
      (subst (HasBlankCount quads) (one_count quads all.0 all.2 all.1) all.1, λ count has. one_count quads count all.2 has)

  pub load_takes_the_count : ReaderLaws → LoadTakesTheCount
  load_takes_the_count laws format base text quads count s t is has made =
      let same = one_document laws format base text made.0 quads made.1 is in
      ap (λ (x : State). x.next) made.3
      ∙ ap (λ qs. s.next + blank_limit qs) same
      ∙ ap (λ n. s.next + n) (sym ((limit_is_the_count format base text quads is).1 count has))

  pub load_wants_the_count : ReaderLaws → LoadWantsTheCount
  load_wants_the_count laws format base text quads count s is has =
      let same = (limit_is_the_count format base text quads is).1 count has in (
        λ refused. subst (λ n. last_number < s.next + n) (ap blank_limit (one_document laws format base text refused.0 quads refused.1 is) ∙ sym same) refused.2,
        λ past. (quads, is, subst (λ n. last_number < s.next + n) same past),
      )
