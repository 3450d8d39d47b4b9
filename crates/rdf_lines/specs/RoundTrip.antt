-- What is written is read back (RDF 1.1 N-Quads, section 2; RDF 1.1 N-Triples, section 4).
use Rattle.std.specs.Prelude.{◌≡◌, ℕ, IsTrue, List, ◌++◌, codes, decimal, map, Option, Some, None, Ok, Contains, IsPermutation, IsSorted}
use Rattle.std.specs.List.{flat_map, AllByRecursion}
use Rattle.rdf_terms.specs.Blanks.{AreNumberedInOrder, blanks_of}
use Rattle.rdf_terms.specs.Order.{quad_cmp}
use Rattle.rdf_terms.specs.Quad.{is_quad}
use Rattle.rdf_terms.specs.declared.term.Term.{Term}
use Rattle.rdf_terms.specs.declared.term.Term.TheVariants as term
use Rattle.rdf_terms.specs.declared.quad.GraphName.{GraphName}
use Rattle.rdf_terms.specs.declared.quad.GraphName.TheVariants.{Default, Named}
use Rattle.rdf_terms.specs.declared.quad.Quad.{Quad}
use Rattle.rdf_lines.specs.declared.fault.LineFault.{LineFault}
use Rattle.rdf_lines.specs.declared.format.LineFormat.{LineFormat}
use Rattle.rdf_lines.specs.declared.format.LineFormat.TheVariants.{NQuads}
use Rattle.rdf_lines.specs.declared.statement.Node.{Node}
use Rattle.rdf_lines.specs.declared.statement.Node.TheVariants as node
use Rattle.rdf_lines.specs.declared.statement.Object.{Object}
use Rattle.rdf_lines.specs.declared.statement.Object.TheVariants as object
use Rattle.rdf_lines.specs.declared.statement.Statement.{Statement}
use Rattle.rdf_lines.specs.Line.{LineSays}
use Rattle.rdf_lines.specs.Document.{IsDocument}
use Rattle.rdf_lines.specs.QuadText.{quad_text, IsSortedText}

-- ---- the statement of a quad

-- the label of a blank node: `b` and its number in decimal
abbrev pub label_of : ℕ → List ℕ
label_of number = codes "b" ++ decimal number

-- a term in a node's place; no literal stands there in a quad, so what this gives one never counts
abbrev pub node_of : Term → Node
node_of (term.Blank number) = node.Label (label_of number)
node_of (term.Iri iri) = node.Iri iri
node_of (term.Literal literal) = node.Iri literal.datatype

-- a quad's predicate is an IRI, so what this gives other terms never counts
abbrev pub predicate_of : Term → List ℕ
predicate_of (term.Blank number) = label_of number
predicate_of (term.Iri iri) = iri
predicate_of (term.Literal literal) = literal.datatype

abbrev pub object_of : Term → Object
object_of (term.Blank number) = object.Node (node_of (term.Blank number))
object_of (term.Iri iri) = object.Node (node_of (term.Iri iri))
object_of (term.Literal literal) = object.Literal literal

abbrev pub graph_of : GraphName → Option Node
graph_of Default = None
graph_of (Named name) = Some (node_of name)

-- IRIs and literals as they are, and a label for each blank node
abbrev pub statement_of : Quad → Statement
statement_of q = record { subject = node_of q.subject; predicate = predicate_of q.predicate; object = object_of q.object; graph = graph_of q.graph }

-- ---- the laws

-- The text of a quad is a line and LF, and the line says the quad's statement.
abbrev pub EachLineIsReadBack : Type 0
EachLineIsReadBack = (q : Quad) → IsTrue (is_quad q) → (line : List ℕ) × (quad_text q ≡ line ++ codes "\n") × LineSays NQuads line (Ok (Some (statement_of q)))

-- Two different quads never have the same line.
abbrev pub LinesDiffer : Type 0
LinesDiffer = (q r : Quad) → IsTrue (is_quad q) → IsTrue (is_quad r) → quad_text q ≡ quad_text r → q ≡ r

-- ---- documents

abbrev pub renamed_term : (ℕ → ℕ) → Term → Term
renamed_term rename (term.Blank number) = term.Blank (rename number)
renamed_term rename (term.Iri iri) = term.Iri iri
renamed_term rename (term.Literal literal) = term.Literal literal

abbrev pub renamed_graph : (ℕ → ℕ) → GraphName → GraphName
renamed_graph rename Default = Default
renamed_graph rename (Named name) = Named (renamed_term rename name)

-- the quad with other numbers for its blank nodes
abbrev pub renamed : (ℕ → ℕ) → Quad → Quad
renamed rename q = record {
  graph = renamed_graph rename q.graph;
  subject = renamed_term rename q.subject;
  predicate = renamed_term rename q.predicate;
  object = renamed_term rename q.object;
}

-- The text is a document with no fault, and its quads are these in this order, but for the numbers of their blank nodes: no two
-- blank nodes become one (RDF 1.1 Concepts, section 4.1).
abbrev pub SaysRenamed : List ℕ → List Quad → Type 0
SaysRenamed text quads =
    (rename : ℕ → ℕ) × ((m n : ℕ) → Contains (flat_map blanks_of quads) m → Contains (flat_map blanks_of quads) n → rename m ≡ rename n → m ≡ n)
    × IsDocument NQuads text (map (renamed rename) quads) None

-- The lines of quads say these quads.
abbrev pub DocumentsAreReadBack : Type 0
DocumentsAreReadBack = (quads : List Quad) → AllByRecursion (λ q. IsTrue (is_quad q)) quads → SaysRenamed (flat_map quad_text quads) quads

-- The sorted text of quads says these quads, sorted.
abbrev pub SortedTextsAreReadBack : Type 0
SortedTextsAreReadBack =
    (quads : List Quad) (text : List ℕ) → AllByRecursion (λ q. IsTrue (is_quad q)) quads → IsSortedText quads text
    → (sorted : List Quad) × IsPermutation quads sorted × IsSorted quad_cmp sorted × SaysRenamed text sorted

-- The lines of such quads are a document with no fault, and its quads are the very same.
abbrev pub NumberedDocumentsAreReadBack : Type 0
NumberedDocumentsAreReadBack =
    (quads : List Quad) → AllByRecursion (λ q. IsTrue (is_quad q)) quads → AreNumberedInOrder quads → IsDocument NQuads (flat_map quad_text quads) quads None

-- Where such quads are sorted, their sorted text says the very same, in this order.
abbrev pub NumberedSortedTextsAreReadBack : Type 0
NumberedSortedTextsAreReadBack =
    (quads : List Quad) (text : List ℕ) → AllByRecursion (λ q. IsTrue (is_quad q)) quads → AreNumberedInOrder quads → IsSorted quad_cmp quads
    → IsSortedText quads text → IsDocument NQuads text quads None

-- The quads of any document, written as lines and read again, are the very same.
abbrev pub ReadDocumentsAreReadAgain : Type 0
ReadDocumentsAreReadAgain =
    (format : LineFormat) (text : List ℕ) (quads : List Quad) (ending : Option LineFault) → IsDocument format text quads ending → AllByRecursion (λ q. IsTrue (is_quad q)) quads
    → IsDocument NQuads (flat_map quad_text quads) quads None
