-- Statements as they stand in their lines: which terms slices of a line are, where canonical form writes them so.
use Rattle.std.specs.Prelude.{◌≡◌, ℕ, List, [], ◌∷◌, ◌++◌, ◌⊎◌, codes, Option, Some, None, Result, Ok, Err}
use Rattle.std.specs.Str.{encode_utf8_all}
use Rattle.rdf_terms.specs.Literal.{LiteralParts}
use Rattle.rdf_terms.specs.Reading.{iri_at}
use Rattle.rdf_terms.specs.TermText.{suffix_text, literal_text, term_text}
use Rattle.rdf_terms.specs.declared.term.Term.{Term}
use Rattle.rdf_terms.specs.declared.term.Term.TheVariants as term
use Rattle.rdf_lines.specs.FaultName.{no_memory}
use Rattle.rdf_lines.specs.QuadText.{quad_text}
use Rattle.rdf_lines.specs.Reader.{FaultOf, ReadsLine}
use Rattle.rdf_lines.specs.declared.fault.LineFault.{LineFault}
use Rattle.rdf_terms.specs.declared.quad.Quad.{Quad}
use Rattle.rdf_lines.specs.Labels.{labels_in, labels_in_object, number_of, term_in, object_in}
use Rattle.rdf_lines.specs.Reading.{skip_white, node_at, suffix_at, literal_at, object_at, graph_at, front_at, back_at, statement_at}
use Rattle.rdf_lines.specs.Written.{absolute_iri, absolute_node, absolute_object, absolute_graph, absolute_front, absolute_back, absolute_statement}
use Rattle.rdf_lines.specs.declared.format.LineFormat.{LineFormat}
use Rattle.rdf_lines.specs.declared.slices.TermSlice.{TermSlice}
use Rattle.rdf_lines.specs.declared.slices.TermSlice.TheVariants as slice
use Rattle.rdf_lines.specs.declared.slices.StatementSlices.{StatementSlices}
use Rattle.rdf_lines.specs.declared.statement.Node.{Node}
use Rattle.rdf_lines.specs.declared.statement.Object.{Object}
use Rattle.rdf_lines.specs.declared.statement.Object.TheVariants as object
use Rattle.rdf_lines.specs.declared.statement.Statement.{Statement}
use Rattle.rdf_lines.specs.declared.written.WrittenNode.{WrittenNode}
use Rattle.rdf_lines.specs.declared.written.WrittenObject.{WrittenObject}
use Rattle.rdf_lines.specs.declared.written.WrittenStatement.{WrittenStatement}

-- ---- slices

-- the label of a slice, if it is one
abbrev pub labels_in_slice : TermSlice → List (List ℕ)
labels_in_slice (slice.Label label) = label.now ∷ []
labels_in_slice (slice.Whole text) = []

-- its canonical text, by the places of labels
abbrev pub slice_text : List (List ℕ) → TermSlice → List ℕ
slice_text labels (slice.Label label) = term_text (term.Blank (number_of labels label.now))
slice_text labels (slice.Whole text) = text.now

abbrev pub labels_in_graph_slice : Option TermSlice → List (List ℕ)
labels_in_graph_slice None = []
labels_in_graph_slice (Some slice) = labels_in_slice slice

-- a graph label's text, and a space; the default graph isn't written
abbrev pub graph_slice_text : List (List ℕ) → Option TermSlice → List ℕ
graph_slice_text labels None = []
graph_slice_text labels (Some slice) = slice_text labels slice ++ codes " "

-- The slice has these labels, and its canonical text is this term's, which depends on the places of labels.
abbrev pub IsSlice : TermSlice → List (List ℕ) → (List (List ℕ) → Term) → Type 0
IsSlice slice labels meant = (labels_in_slice slice ≡ labels) × ((known : List (List ℕ)) → slice_text known slice ≡ term_text (meant known))

abbrev pub IsNodeSlice : TermSlice → Node → Type 0
IsNodeSlice slice node = IsSlice slice (labels_in node) (λ known. term_in known node)

abbrev pub IsObjectSlice : TermSlice → Object → Type 0
IsObjectSlice slice meant = IsSlice slice (labels_in_object meant) (λ known. object_in known meant)

abbrev pub IsGraphSlice : Option TermSlice → Option Node → Type 0
IsGraphSlice None None = Unit {0}
IsGraphSlice (Some slice) (Some node) = IsNodeSlice slice node
IsGraphSlice None (Some node) = ⊥
IsGraphSlice (Some slice) None = ⊥

-- the slices are those of a statement
pub record AreSlices (slices : StatementSlices) (statement : Statement) : Type 0 where
  pub subject : IsNodeSlice slices.subject statement.subject
  pub predicate : slices.predicate.now ≡ term_text (term.Iri statement.predicate)
  pub object : IsObjectSlice slices.object statement.object
  pub graph : IsGraphSlice slices.graph statement.graph

-- ---- what stands at the front of a list of characters, as canonical form writes it, and what follows it

abbrev pub ReadsIri : List ℕ → List ℕ → List ℕ → Type 0
ReadsIri cs text rest =
    (iri : List ℕ) × (over : List ℕ) × (iri_at cs ≡ Some (iri, rest)) × (absolute_iri iri ≡ Some iri) × (text ≡ term_text (term.Iri iri)) × (cs ≡ over ++ rest) × (text ≡ encode_utf8_all over)

-- behind a string
abbrev pub ReadsSuffix : List ℕ → List ℕ → Type 0
ReadsSuffix cs rest =
    (datatype : List ℕ) × (tag : Option (List ℕ)) × (over : List ℕ) × (cs ≡ over ++ rest) × (encode_utf8_all over ≡ suffix_text datatype tag)
    × ((lexical : List ℕ) → (written : WrittenObject) × (suffix_at lexical cs (skip_white cs) ≡ Some (written, rest))
    × (absolute_object written ≡ Some (object.Literal (record { lexical = lexical; datatype = datatype; tag = tag }))))

abbrev pub ReadsLiteral : List ℕ → List ℕ → List ℕ → Type 0
ReadsLiteral cs text rest =
    (written : WrittenObject) × (literal : LiteralParts) × (literal_at cs ≡ Some (written, rest)) × (absolute_object written ≡ Some (object.Literal literal)) × (text ≡ literal_text literal)

abbrev pub ReadsNode : List ℕ → TermSlice → List ℕ → Type 0
ReadsNode cs slice rest =
    (written : WrittenNode) × (node : Node) × (node_at cs ≡ Some (written, rest)) × (absolute_node written ≡ Some node) × IsNodeSlice slice node

abbrev pub ReadsObject : List ℕ → TermSlice → List ℕ → Type 0
ReadsObject cs slice rest =
    (written : WrittenObject) × (meant : Object) × (object_at cs ≡ Some (written, rest)) × (absolute_object written ≡ Some meant) × IsObjectSlice slice meant

abbrev pub ReadsGraph : LineFormat → List ℕ → Option TermSlice → List ℕ → Type 0
ReadsGraph format cs slice rest =
    (written : Option WrittenNode) × (node : Option Node) × (graph_at format cs ≡ Some (written, rest)) × (absolute_graph written ≡ Some node) × IsGraphSlice slice node

abbrev pub ReadsFront : List ℕ → TermSlice → List ℕ → List ℕ → Type 0
ReadsFront cs subject predicate rest =
    (written : WrittenNode) × (node : Node) × (iri : List ℕ) × (front_at cs ≡ Some (written, iri, rest)) × (absolute_front written iri ≡ Some (node, iri))
    × IsNodeSlice subject node × (predicate ≡ term_text (term.Iri iri))

abbrev pub ReadsBack : LineFormat → List ℕ → TermSlice → Option TermSlice → Type 0
ReadsBack format cs object graph =
    (written : WrittenObject) × (label : Option WrittenNode) × (meant : Object) × (node : Option Node) × (back_at format cs ≡ Some (written, label))
    × (absolute_back written label ≡ Some (meant, node)) × IsObjectSlice object meant × IsGraphSlice graph node

abbrev pub ReadsStatement : LineFormat → List ℕ → StatementSlices → Type 0
ReadsStatement format cs slices =
    (written : WrittenStatement) × (statement : Statement) × (statement_at format cs ≡ Some written) × (absolute_statement written ≡ Some statement) × AreSlices slices statement

-- ---- lines

-- the line of a quad, if there is one
abbrev pub line_of : Option Quad → List ℕ
line_of None = []
line_of (Some quad) = quad_text quad

-- What reading one whole line gives, from its number and the labels before, and the canonical line that goes behind a text; at a
-- fault none goes there.
abbrev pub WritesLine : LineFormat → List ℕ → ℕ → List (List ℕ) → List ℕ → Result (Unit {0}) LineFault → ℕ → List (List ℕ) → List ℕ → Type 0
WritesLine format line n labels text (Ok u) m now grown = (quad : Option Quad) × ReadsLine format line n labels (Ok quad) m now × (grown ≡ text ++ line_of quad)
WritesLine format line n labels text (Err f) m now grown = (f.line ≡ n) × (FaultOf format line f.kind ⊎ (f.kind ≡ no_memory)) × (grown ≡ text)
