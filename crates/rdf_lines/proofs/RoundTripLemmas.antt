-- The line of a quad says the quad's statement, and tells the quad from all others.
use Rattle.std.proofs.Common.{◌≡◌, ◌∙◌, ap, refl, sym, subst, ℕ, ◌<◌, ◌^◌, arith, true, false, List, [], ◌∷◌, ◌++◌, codes, decimal, chars, IsUtf8, true≢false, append_assoc, Option, Some, Result, Ok, IsTrue}
use Rattle.std.specs.List.{AllByRecursion}
use Rattle.std.proofs.lemmas.Bool.{and_parts, ltb-true, not-true}
use Rattle.std.proofs.lemmas.Fmt.{decimal_injective}
use Rattle.std.proofs.lemmas.List.{append_cancel_left, append_cancel_right}
use Rattle.std.proofs.lemmas.Str.{chars-append, IsUtf8-append}
use Rattle.rdf_terms.specs.Iri.{is_iri, has_scheme}
use Rattle.rdf_terms.specs.Literal.{LiteralParts}
use Rattle.rdf_terms.specs.Term.{is_term, is_literal_term, is_iri_term}
use Rattle.rdf_terms.specs.TermText.{term_text}
use Rattle.rdf_terms.specs.Quoted.{IsIriRef}
use Rattle.rdf_terms.specs.Quad.{may_name_graph, is_graph, is_quad}
use Rattle.rdf_terms.specs.declared.term.Term.{Term}
use Rattle.rdf_terms.specs.declared.term.Term.TheVariants.{Blank, Iri, Literal}
use Rattle.rdf_terms.specs.declared.quad.GraphName.{GraphName}
use Rattle.rdf_terms.specs.declared.quad.GraphName.TheVariants.{Default, Named}
use Rattle.rdf_terms.specs.declared.quad.Quad.{Quad}
use Rattle.rdf_terms.proofs.CallerLemmas.{utf8_one, utf8_cons, chars_one, chars_cons, QuadTests, quad_tests, iri_scheme, term_utf8}
use Rattle.rdf_lines.specs.declared.fault.FaultKind.{FaultKind}
use Rattle.rdf_lines.specs.declared.format.LineFormat.TheVariants.{NQuads}
use Rattle.rdf_lines.specs.declared.statement.Node.{Node}
use Rattle.rdf_lines.specs.declared.statement.Node.TheVariants as node
use Rattle.rdf_lines.specs.declared.statement.Object.TheVariants as object
use Rattle.rdf_lines.specs.declared.statement.Statement.{Statement}
use Rattle.rdf_lines.specs.Grammar.{is_white, Gap, Next, HasNode, HasGraph, Ends, IsStatement}
use Rattle.rdf_lines.specs.Line.{LineSays, IsAbsoluteNode, IsAbsoluteObject, IsAbsoluteGraph}
use Rattle.rdf_lines.specs.QuadText.{graph_text, quad_text}
use Rattle.rdf_lines.specs.RoundTrip.{label_of, node_of, predicate_of, object_of, graph_of, statement_of, EachLineIsReadBack, LinesDiffer}
use Rattle.rdf_lines.proofs.LineLaws.{one_answer}
use Rattle.rdf_lines.proofs.WrittenPartLemmas.{predicate_back, node_back, object_back}

-- ---- the line of a quad

-- what follows the object's space
abbrev pub end_text : GraphName → List ℕ
end_text Default = 46 ∷ []
end_text (Named name) = term_text name ++ 32 ∷ 46 ∷ []

abbrev pub line_of : Quad → List ℕ
line_of q = term_text q.subject ++ 32 ∷ (term_text q.predicate ++ 32 ∷ (term_text q.object ++ 32 ∷ end_text q.graph))

one_end : (g : GraphName) → graph_text g ++ codes ".\n" ≡ end_text g ++ 10 ∷ []
one_end Default = refl
one_end (Named name) = append_assoc (term_text name) (32 ∷ []) (46 ∷ 10 ∷ []) ∙ sym (append_assoc (term_text name) (32 ∷ 46 ∷ []) (10 ∷ []))

spaced : (xs ys zs : List ℕ) → ((xs ++ 32 ∷ []) ++ ys) ++ zs ≡ xs ++ 32 ∷ (ys ++ zs)
spaced xs ys zs = append_assoc (xs ++ 32 ∷ []) ys zs ∙ append_assoc xs (32 ∷ []) (ys ++ zs)

pub quad_line : (q : Quad) → quad_text q ≡ line_of q ++ codes "\n"
quad_line q = by (term_text q.subject) (term_text q.predicate) (term_text q.object) (graph_text q.graph) (end_text q.graph) (one_end q.graph)
  where
    by : (s p o g e : List ℕ) → g ++ codes ".\n" ≡ e ++ 10 ∷ []
        → s ++ codes " " ++ p ++ codes " " ++ o ++ codes " " ++ g ++ codes ".\n" ≡ (s ++ 32 ∷ (p ++ 32 ∷ (o ++ 32 ∷ e))) ++ codes "\n"
    by s p o g e h =
        spaced (((s ++ 32 ∷ []) ++ p) ++ 32 ∷ [] ++ o) g (46 ∷ 10 ∷ [])
        ∙ ap (λ (t : List ℕ). (((s ++ 32 ∷ []) ++ p) ++ 32 ∷ [] ++ o) ++ 32 ∷ t) h
        ∙ spaced ((s ++ 32 ∷ []) ++ p) o (32 ∷ (e ++ 10 ∷ []))
        ∙ spaced s p (32 ∷ (o ++ 32 ∷ (e ++ 10 ∷ [])))
        ∙ sym (append_assoc s (32 ∷ (p ++ 32 ∷ (o ++ 32 ∷ e))) (10 ∷ [])
        ∙ ap (λ (t : List ℕ). s ++ 32 ∷ t) (append_assoc p (32 ∷ (o ++ 32 ∷ e)) (10 ∷ []) ∙ ap (λ (t : List ℕ). p ++ 32 ∷ t) (append_assoc o (32 ∷ e) (10 ∷ []))))

-- ---- its characters

chars_space : (xs ys : List ℕ) → IsUtf8 xs → chars (xs ++ 32 ∷ ys) ≡ chars xs ++ 32 ∷ chars ys
chars_space xs ys u = chars-append xs (32 ∷ ys) u ∙ ap (λ (t : List ℕ). chars xs ++ t) (chars_cons 32 ys (omega arith))

utf8_space : (xs ys : List ℕ) → IsUtf8 xs → IsUtf8 ys → IsUtf8 (xs ++ 32 ∷ ys)
utf8_space xs ys u v = IsUtf8-append xs (32 ∷ ys) u (utf8_cons 32 ys (omega arith) v)

end_utf8 : (g : GraphName) → is_graph g ≡ true → IsUtf8 (end_text g)
end_utf8 Default h = utf8_one 46 (omega arith)
end_utf8 (Named name) h = utf8_space (term_text name) (46 ∷ []) (term_utf8 name h) (utf8_one 46 (omega arith))

line_utf8 : (q : Quad) → QuadTests q → IsUtf8 (line_of q)
line_utf8 q t = utf8_space _ _ (term_utf8 q.subject t.subject) (utf8_space _ _ (term_utf8 q.predicate t.predicate) (utf8_space _ _ (term_utf8 q.object t.object) (end_utf8 q.graph t.graph)))

line_chars : (q : Quad) → QuadTests q
    → chars (line_of q) ≡ chars (term_text q.subject) ++ 32 ∷ (chars (term_text q.predicate) ++ 32 ∷ (chars (term_text q.object) ++ 32 ∷ chars (end_text q.graph)))
line_chars q t =
    chars_space (term_text q.subject) _ (term_utf8 q.subject t.subject)
    ∙ ap (λ (r : List ℕ). chars (term_text q.subject) ++ 32 ∷ r) (chars_space (term_text q.predicate) _ (term_utf8 q.predicate t.predicate)
    ∙ ap (λ (r : List ℕ). chars (term_text q.predicate) ++ 32 ∷ r) (chars_space (term_text q.object) (end_text q.graph) (term_utf8 q.object t.object)))

-- ---- what it says

one_white : AllByRecursion (λ c. is_white c ≡ true) (32 ∷ [])
one_white = (refl, tt)

no_white : AllByRecursion (λ c. is_white c ≡ true) []
no_white = tt

predicate_here : (t : Term) → is_iri_term t ≡ true → is_term t ≡ true → (rest : List ℕ) → Next IsIriRef (32 ∷ (chars (term_text t) ++ 32 ∷ rest)) (predicate_of t) (32 ∷ rest)
predicate_here (Iri iri) k h rest = predicate_back (32 ∷ []) one_white rest iri h
predicate_here (Blank n) k h rest = absurd (true≢false (sym k))
predicate_here (Literal l) k h rest = absurd (true≢false (sym k))

over : Ends []
over = ([], ([], tt, refl), tt)

-- the graph label and the dot
record Stop (g : GraphName) : Type 0 where
  left : List ℕ
  graph : HasGraph NQuads (32 ∷ chars (end_text g)) (graph_of g) left
  gap : Gap left (46 ∷ [])

stop_at : (g : GraphName) → may_name_graph g ≡ true → is_graph g ≡ true → Stop g
stop_at Default k h = record { left = 32 ∷ 46 ∷ []; graph = ap (λ (t : List ℕ). 32 ∷ t) (chars_one 46 (omega arith)); gap = (32 ∷ [], one_white, refl) }
stop_at (Named name) k h = record {
  left = 32 ∷ 46 ∷ [];
  graph = subst (λ (t : List ℕ). HasNode (32 ∷ t) (node_of name) (32 ∷ 46 ∷ []))
      (sym (chars_space (term_text name) (46 ∷ []) (term_utf8 name h) ∙ ap (λ (t : List ℕ). chars (term_text name) ++ 32 ∷ t) (chars_one 46 (omega arith))))
      (node_back (32 ∷ []) one_white (46 ∷ []) name (not-true (is_literal_term name) k) h);
  gap = (32 ∷ [], one_white, refl);
}

line_says : (q : Quad) → QuadTests q → IsStatement NQuads (chars (line_of q)) (statement_of q)
line_says q t =
    let last = 32 ∷ chars (end_text q.graph) in
    let third = 32 ∷ (chars (term_text q.object) ++ last) in
    let second = 32 ∷ (chars (term_text q.predicate) ++ third) in
    let stop = stop_at q.graph t.graph_kind t.graph in
    subst (λ (l : List ℕ). IsStatement NQuads l (statement_of q)) (sym (line_chars q t)) (record {
      after_subject = second;
      after_predicate = third;
      after_object = last;
      after_graph = stop.left;
      before_dot = 46 ∷ [];
      after_dot = [];
      subject = node_back [] no_white (chars (term_text q.predicate) ++ third) q.subject t.subject_kind t.subject;
      predicate = predicate_here q.predicate t.predicate_kind t.predicate (chars (term_text q.object) ++ last);
      object = object_back (32 ∷ []) one_white (chars (end_text q.graph)) q.object t.object;
      graph = stop.graph;
      gap = stop.gap;
      dot = refl;
      end = over;
    })

-- ---- each IRI has a scheme

node_absolute : (t : Term) → is_literal_term t ≡ false → is_term t ≡ true → IsAbsoluteNode (node_of t)
node_absolute (Blank n) k h = tt
node_absolute (Iri iri) k h = iri_scheme iri h
node_absolute (Literal l) k h = absurd (true≢false k)

predicate_absolute : (t : Term) → is_iri_term t ≡ true → is_term t ≡ true → IsTrue (has_scheme (predicate_of t))
predicate_absolute (Iri iri) k h = iri_scheme iri h
predicate_absolute (Blank n) k h = absurd (true≢false (sym k))
predicate_absolute (Literal l) k h = absurd (true≢false (sym k))

object_absolute : (t : Term) → is_term t ≡ true → IsAbsoluteObject (object_of t)
object_absolute (Blank n) h = tt
object_absolute (Iri iri) h = iri_scheme iri h
object_absolute (Literal l) h = iri_scheme l.datatype (and_parts (is_iri l.datatype) _ (and_parts _ _ h).1).0

graph_absolute : (g : GraphName) → may_name_graph g ≡ true → is_graph g ≡ true → IsAbsoluteGraph (graph_of g)
graph_absolute Default k h = tt
graph_absolute (Named name) k h = node_absolute name (not-true (is_literal_term name) k) h

pub says_statement : (q : Quad) → is_quad q ≡ true → LineSays NQuads (line_of q) (Ok (Some (statement_of q)))
says_statement q h =
    let t = quad_tests q h in (
      line_utf8 q t,
      line_says q t,
      (node_absolute q.subject t.subject_kind t.subject, predicate_absolute q.predicate t.predicate_kind t.predicate, object_absolute q.object t.object, graph_absolute q.graph t.graph_kind t.graph),
    )

pub each_line_is_read_back : EachLineIsReadBack
each_line_is_read_back q h = (line_of q, quad_line q, says_statement q h)

-- ---- two quads with one statement are one

pub label_of-injective : (m n : ℕ) → m < 2 ^ 64 → n < 2 ^ 64 → label_of m ≡ label_of n → m ≡ n
label_of-injective m n p q e = decimal_injective m n p q (append_cancel_left (98 ∷ []) (decimal m) (decimal n) e)

small : (n : ℕ) → is_term (Blank n) ≡ true → n < 2 ^ 64
small n h = ltb-true n 18446744073709551616 h

label_is : (a b : List ℕ) → node.Label a ≡ node.Label b → a ≡ b
label_is a b e = cc

iri_is : (a b : List ℕ) → node.Iri a ≡ node.Iri b → a ≡ b
iri_is a b e = cc

label_no_iri : {P : Type 0} (a b : List ℕ) → node.Label a ≡ node.Iri b → P
label_no_iri a b e = absurd cc

iri_no_label : {P : Type 0} (a b : List ℕ) → node.Iri a ≡ node.Label b → P
iri_no_label a b e = absurd cc

same_node : (s t : Term) → is_literal_term s ≡ false → is_literal_term t ≡ false → is_term s ≡ true → is_term t ≡ true → node_of s ≡ node_of t → s ≡ t
same_node (Blank m) (Blank n) j k p q e = ap Blank (label_of-injective m n (small m p) (small n q) (label_is (label_of m) (label_of n) e))
same_node (Blank m) (Iri i) j k p q e = label_no_iri (label_of m) i e
same_node (Iri i) (Blank n) j k p q e = iri_no_label i (label_of n) e
same_node (Iri i) (Iri l) j k p q e = ap Iri (iri_is i l e)
same_node (Literal l) t j k p q e = absurd (true≢false j)
same_node s (Literal l) j k p q e = absurd (true≢false k)

same_predicate : (s t : Term) → is_iri_term s ≡ true → is_iri_term t ≡ true → predicate_of s ≡ predicate_of t → s ≡ t
same_predicate (Iri i) (Iri l) j k e = ap Iri e
same_predicate (Blank m) t j k e = absurd (true≢false (sym j))
same_predicate (Literal l) t j k e = absurd (true≢false (sym j))
same_predicate s (Blank m) j k e = absurd (true≢false (sym k))
same_predicate s (Literal l) j k e = absurd (true≢false (sym k))

object_node : (a b : Node) → object.Node a ≡ object.Node b → a ≡ b
object_node a b e = cc

object_literal : (a b : LiteralParts) → object.Literal a ≡ object.Literal b → a ≡ b
object_literal a b e = cc

node_no_literal : {P : Type 0} (a : Node) (b : LiteralParts) → object.Node a ≡ object.Literal b → P
node_no_literal a b e = absurd cc

literal_no_node : {P : Type 0} (a : LiteralParts) (b : Node) → object.Literal a ≡ object.Node b → P
literal_no_node a b e = absurd cc

same_object : (s t : Term) → is_term s ≡ true → is_term t ≡ true → object_of s ≡ object_of t → s ≡ t
same_object (Blank m) (Blank n) p q e = same_node (Blank m) (Blank n) refl refl p q (object_node _ _ e)
same_object (Blank m) (Iri i) p q e = same_node (Blank m) (Iri i) refl refl p q (object_node _ _ e)
same_object (Blank m) (Literal l) p q e = node_no_literal _ _ e
same_object (Iri i) (Blank n) p q e = same_node (Iri i) (Blank n) refl refl p q (object_node _ _ e)
same_object (Iri i) (Iri l) p q e = same_node (Iri i) (Iri l) refl refl p q (object_node _ _ e)
same_object (Iri i) (Literal l) p q e = node_no_literal _ _ e
same_object (Literal l) (Blank n) p q e = literal_no_node _ _ e
same_object (Literal l) (Iri i) p q e = literal_no_node _ _ e
same_object (Literal l) (Literal m) p q e = ap Literal (object_literal l m e)

some_node : (a b : Node) → ◌≡◌ {A = Option Node} (Some a) (Some b) → a ≡ b
some_node a b e = cc

same_graph : (g h : GraphName) → may_name_graph g ≡ true → may_name_graph h ≡ true → is_graph g ≡ true → is_graph h ≡ true → graph_of g ≡ graph_of h → g ≡ h
same_graph Default Default j k p q e = refl
same_graph Default (Named t) j k p q e = absurd cc
same_graph (Named s) Default j k p q e = absurd cc
same_graph (Named s) (Named t) j k p q e = ap Named (same_node s t (not-true (is_literal_term s) j) (not-true (is_literal_term t) k) p q (some_node (node_of s) (node_of t) e))

same_quad : (q r : Quad) → QuadTests q → QuadTests r → statement_of q ≡ statement_of r → q ≡ r
same_quad q r t u e =
    let graph = same_graph q.graph r.graph t.graph_kind u.graph_kind t.graph u.graph (ap (λ (s : Statement). s.graph) e) in
    let subject = same_node q.subject r.subject t.subject_kind u.subject_kind t.subject u.subject (ap (λ (s : Statement). s.subject) e) in
    let predicate = same_predicate q.predicate r.predicate t.predicate_kind u.predicate_kind (ap (λ (s : Statement). s.predicate) e) in
    let object = same_object q.object r.object t.object u.object (ap (λ (s : Statement). s.object) e) in
    λ i. record { graph = graph i; subject = subject i; predicate = predicate i; object = object i }

same_statement : (s t : Statement) → ◌≡◌ {A = Result (Option Statement) FaultKind} (Ok (Some s)) (Ok (Some t)) → s ≡ t
same_statement s t e = cc

pub lines_differ : LinesDiffer
lines_differ q r p k e =
    let line : line_of q ≡ line_of r = append_cancel_right (line_of q) (line_of r) (codes "\n") (sym (quad_line q) ∙ e ∙ quad_line r) in
    let second = subst (λ (l : List ℕ). LineSays NQuads l (Ok (Some (statement_of r)))) (sym line) (says_statement r k) in
    let same = one_answer NQuads (line_of q) (Ok (Some (statement_of q))) (Ok (Some (statement_of r))) (says_statement q p) second in
    same_quad q r (quad_tests q p) (quad_tests r k) (same_statement (statement_of q) (statement_of r) same)
