-- Blank node labels become numbers in order of first appearance. RDF 1.1 N-Quads, section 2.4: labels are local to the document.
use Rattle.std.specs.Prelude.{ℕ, List, [], ◌∷◌, ◌++◌, nat_eq, if◌then◌else◌, map, Option, Some, None}
use Rattle.std.specs.List.{list_any, position_or_len, flat_map}
use Rattle.std.specs.Cmp.Lexicographic.{pointwise}
use Rattle.rdf_lines.specs.declared.statement.Node.{Node}
use Rattle.rdf_lines.specs.declared.statement.Node.TheVariants.{Label, Iri}
use Rattle.rdf_lines.specs.declared.statement.Object.{Object}
use Rattle.rdf_lines.specs.declared.statement.Object.TheVariants.{Node as OfNode, Literal as OfLiteral}
use Rattle.rdf_lines.specs.declared.statement.Statement.{Statement}
use Rattle.rdf_terms.specs.declared.term.Term.{Term}
use Rattle.rdf_terms.specs.declared.term.Term.TheVariants as term
use Rattle.rdf_terms.specs.declared.quad.GraphName.{GraphName}
use Rattle.rdf_terms.specs.declared.quad.GraphName.TheVariants.{Default, Named}
use Rattle.rdf_terms.specs.declared.quad.Quad.{Quad}

abbrev pub labels_in : Node → List (List ℕ)
labels_in (Label label) = label ∷ []
labels_in (Iri iri) = []

abbrev pub labels_in_object : Object → List (List ℕ)
labels_in_object (OfNode node) = labels_in node
labels_in_object (OfLiteral literal) = []

abbrev pub labels_in_graph : Option Node → List (List ℕ)
labels_in_graph None = []
labels_in_graph (Some node) = labels_in node

-- the labels of a statement, in their order
abbrev pub labels_of : Statement → List (List ℕ)
labels_of s = labels_in s.subject ++ labels_in_object s.object ++ labels_in_graph s.graph

-- its nodes, in their order: blank nodes by their labels, and IRIs
abbrev pub nodes_in_object : Object → List Node
nodes_in_object (OfNode node) = node ∷ []
nodes_in_object (OfLiteral literal) = []

abbrev pub nodes_in_graph : Option Node → List Node
nodes_in_graph None = []
nodes_in_graph (Some node) = node ∷ []

abbrev pub nodes_of : Statement → List Node
nodes_of s = s.subject ∷ (nodes_in_object s.object ++ nodes_in_graph s.graph)

-- the known labels, and this one if it is new
abbrev pub noted : List (List ℕ) → List ℕ → List (List ℕ)
noted known label = if list_any (pointwise nat_eq label) known then known else known ++ label ∷ []

abbrev pub all_noted : List (List ℕ) → List (List ℕ) → List (List ℕ)
all_noted known [] = known
all_noted known (label ∷ labels) = all_noted (noted known label) labels

-- the known labels and those of the statements, each once, in order of first appearance
abbrev pub labels_after : List (List ℕ) → List Statement → List (List ℕ)
labels_after known statements = all_noted known (flat_map labels_of statements)

-- a label's number is its place
abbrev pub number_of : List (List ℕ) → List ℕ → ℕ
number_of labels label = position_or_len (pointwise nat_eq label) labels

abbrev pub term_in : List (List ℕ) → Node → Term
term_in labels (Label label) = term.Blank (number_of labels label)
term_in labels (Iri iri) = term.Iri iri

abbrev pub object_in : List (List ℕ) → Object → Term
object_in labels (OfNode node) = term_in labels node
object_in labels (OfLiteral literal) = term.Literal literal

abbrev pub graph_in : List (List ℕ) → Option Node → GraphName
graph_in labels None = Default
graph_in labels (Some node) = Named (term_in labels node)

abbrev pub quad_in : List (List ℕ) → Statement → Quad
quad_in labels s = record { graph = graph_in labels s.graph; subject = term_in labels s.subject; predicate = term.Iri s.predicate; object = object_in labels s.object }

-- the statements of a whole document, with numbers for labels
abbrev pub numbered : List Statement → List Quad
numbered statements = map (quad_in (labels_after [] statements)) statements
