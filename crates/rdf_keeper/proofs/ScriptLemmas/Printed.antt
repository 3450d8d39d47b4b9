-- What is printed is read back in each format.
use Rattle.std.proofs.Common.{◌≡◌, ◌∙◌, ap, refl, sym, subst, inl, inr, ℕ, ◌+◌, ◌||◌, Bool, true, false, List, [], ◌∷◌, ◌++◌, map, codes, append-nil, append_assoc, Option, None}
use Rattle.std.specs.FinSet as set
use Rattle.std.specs.FinSet.{contains-from_list}
use Rattle.std.specs.List.{AllByRecursion, concat, flat_map, list_any}
use Rattle.std.specs.Ordering.{eq_by_cmp, is_eq}
use Rattle.std.proofs.lemmas.Cmp.{tied_itself}
use Rattle.std.proofs.lemmas.List.Sorted.{IsPermutation-refl}
use Rattle.rdf_terms.specs.Order.{quad_cmp}
use Rattle.rdf_terms.specs.OrderLaws.{quad_cmp_total}
use Rattle.rdf_terms.specs.Quad.{QuadParts, is_quad}
use Rattle.rdf_terms.specs.TermText.{term_text}
use Rattle.rdf_terms.specs.declared.quad.GraphName.{GraphName}
use Rattle.rdf_terms.specs.declared.quad.GraphName.TheVariants.{Default}
use Rattle.rdf_lines.specs.Document.{ReadsAll}
use Rattle.rdf_lines.specs.Grammar.{IsStatement, HasGraph}
use Rattle.rdf_lines.specs.QuadText.{graph_text, quad_text}
use Rattle.rdf_lines.specs.RoundTrip.{graph_of, statement_of}
use Rattle.rdf_lines.specs.declared.format.LineFormat.TheVariants as line
use Rattle.rdf_lines.specs.declared.statement.Node.{Node}
use Rattle.rdf_lines.specs.declared.statement.Statement.{Statement}
use Rattle.rdf_lines.proofs.CallerLemmas.{numbered_again, numbered_documents_are_read_back, one_text, reads_all}
use Rattle.rdf_turtle.specs.Document as turtle
use Rattle.rdf_turtle.specs.WrittenLaws.{triple_text, IsDefaultQuad}
use Rattle.rdf_turtle.proofs.CallerLemmas.{written_triples_are_turtle}
use Rattle.rdf_dataset.specs.State.{State}
use Rattle.rdf_session.specs.Documents.{IsDocument}
use Rattle.rdf_keeper.specs.Script.Printed.{LinesAreDocuments, SortedTextsAreDocuments, IsGraphInOrder, PrintedLinesAreDocuments}
use Rattle.rdf_session.specs.Session.{now}
use Rattle.rdf_session.specs.declared.format.Format.TheVariants.{NQuads, NTriples, Turtle}

-- ---- N-Quads

well_formed : (quads : List QuadParts) → AllByRecursion IsDefaultQuad quads → AllByRecursion (λ q. is_quad q ≡ true) quads
well_formed [] h = tt
well_formed (q ∷ quads) h = (h.0.0, well_formed quads h.1)

-- ---- N-Triples: what a line without a graph label says in N-Quads

abbrev HasNoGraph : Statement → Type 0
HasNoGraph s = s.graph ≡ None

graph_too : (start rest : List ℕ) (g : Option Node) → g ≡ None → HasGraph line.NQuads start g rest → HasGraph line.NTriples start g rest
graph_too start rest g e h = subst (λ (x : Option Node). HasGraph line.NTriples start x rest) (sym e) (subst (λ (x : Option Node). HasGraph line.NQuads start x rest) e h)

statement_too : (cs : List ℕ) (s : Statement) → HasNoGraph s → IsStatement line.NQuads cs s → IsStatement line.NTriples cs s
statement_too cs s e t = record {
  after_subject = t.after_subject;
  after_predicate = t.after_predicate;
  after_object = t.after_object;
  after_graph = t.after_graph;
  before_dot = t.before_dot;
  after_dot = t.after_dot;
  subject = t.subject;
  predicate = t.predicate;
  object = t.object;
  graph = graph_too t.after_object t.after_graph s.graph e t.graph;
  gap = t.gap;
  dot = t.dot;
  end = t.end;
}

no_graphs : (quads : List QuadParts) → AllByRecursion IsDefaultQuad quads → AllByRecursion HasNoGraph (map statement_of quads)
no_graphs [] h = tt
no_graphs (q ∷ quads) h = (ap graph_of h.0.1, no_graphs quads h.1)

reads_too : (ls : List (List ℕ)) (n : ℕ) (ss : List Statement) → AllByRecursion HasNoGraph ss → ReadsAll line.NQuads n ls ss None → ReadsAll line.NTriples n ls ss None
reads_too [] n ss h r = r
reads_too (l ∷ ls) n ss h (inl (says, more)) = inl (says, reads_too ls (n + 1) ss h more)
reads_too (l ∷ ls) n ss h (inr (inl (s, others, says, e, more))) =
    let own = subst (AllByRecursion HasNoGraph) e h in
    inr (inl (s, others, (says.0, statement_too _ s own.0 says.1, says.2), e, reads_too ls (n + 1) others own.1 more))
reads_too (l ∷ ls) n ss h (inr (inr (kind, says, e, fault))) = absurd cc

-- ---- Turtle: the line of a quad of the default graph is that of its triple

one_end : (xs : List ℕ) → xs ++ codes " " ++ [] ++ codes ".\n" ≡ xs ++ codes " .\n"
one_end xs = ap (λ (t : List ℕ). t ++ codes ".\n") (append-nil (xs ++ codes " ")) ∙ append_assoc xs (codes " ") (codes ".\n")

one_line : (q : QuadParts) → q.graph ≡ Default → quad_text q ≡ triple_text q
one_line q e =
    let front = term_text q.subject ++ codes " " ++ term_text q.predicate ++ codes " " ++ term_text q.object in
    ap (λ (g : GraphName). front ++ codes " " ++ graph_text g ++ codes ".\n") e ∙ one_end front

same_lines : (quads : List QuadParts) → AllByRecursion IsDefaultQuad quads → flat_map quad_text quads ≡ flat_map triple_text quads
same_lines [] h = refl
same_lines (q ∷ quads) h = λ i. one_line q h.0.1 i ++ same_lines quads h.1 i

-- ---- each format

pub lines_are_documents : LinesAreDocuments
lines_are_documents NQuads base quads all order = numbered_documents_are_read_back quads (well_formed quads all) order
lines_are_documents NTriples base quads all order =
    let h = well_formed quads all in
    (map statement_of quads, reads_too _ 1 (map statement_of quads) (no_graphs quads all) (reads_all 1 quads h), numbered_again quads h order)
lines_are_documents Turtle base quads all order =
    subst (λ (t : List ℕ). turtle.IsDocument base t quads) (sym (same_lines quads all)) (written_triples_are_turtle base quads all order)

pub sorted_texts_are_documents : SortedTextsAreDocuments
sorted_texts_are_documents format base quads text all order ordered is =
    subst (λ (t : List ℕ). IsDocument format base t quads)
    (sym (one_text quads text (flat_map quad_text quads) is (quads, IsPermutation-refl quads, ordered, refl)))
    (lines_are_documents format base quads all order)

-- ---- what is printed

-- each of these is in the set
abbrev Has : List QuadParts → QuadParts → Type 0
Has quads q = list_any (eq_by_cmp quad_cmp q) quads ≡ true

found : (q : QuadParts) (quads : List QuadParts) → Has (q ∷ quads) q
found q quads = ap (λ r. is_eq r || list_any (eq_by_cmp quad_cmp q) quads) (tied_itself quad_cmp_total q)

behind : (b : Bool) → (c : Bool) → c ≡ true → (b || c) ≡ true
behind true c h = refl
behind false c h = h

all_behind : (p : QuadParts) (quads items : List QuadParts) → AllByRecursion (Has quads) items → AllByRecursion (Has (p ∷ quads)) items
all_behind p quads [] h = tt
all_behind p quads (q ∷ items) h = (behind (eq_by_cmp quad_cmp q p) (list_any (eq_by_cmp quad_cmp q) quads) h.0, all_behind p quads items h.1)

all_found : (quads : List QuadParts) → AllByRecursion (Has quads) quads
all_found [] = tt
all_found (q ∷ quads) = (found q quads, all_behind q quads quads (all_found quads))

default_quads : (s : State) → IsGraphInOrder s → (quads items : List QuadParts) → set.from_list quads ≡ s.quads → AllByRecursion (Has quads) items → AllByRecursion IsDefaultQuad items
default_quads s h quads [] e all = tt
default_quads s h quads (q ∷ items) e all =
    let within : set.contains s.quads q ≡ true = ap (λ m. set.contains m q) (sym e) ∙ contains-from_list quad_cmp_total quads q ∙ all.0 in
    ((h.sound.right_quads q within, h.in_default q within), default_quads s h quads items e all.1)

flat : (quads : List QuadParts) → concat (map quad_text quads) ≡ flat_map quad_text quads
flat [] = refl
flat (q ∷ quads) = ap (λ (t : List ℕ). quad_text q ++ t) (flat quads)

pub printed_lines_are_documents : PrintedLinesAreDocuments
printed_lines_are_documents format base session lines h (quads, lists, e) = (
  quads,
  lists,
  subst (λ (t : List ℕ). IsDocument format base t quads) (sym (ap concat e ∙ flat quads))
      (lines_are_documents format base quads (default_quads (now session) h quads quads lists.lists.all (all_found quads)) (h.in_order quads lists)),
)
