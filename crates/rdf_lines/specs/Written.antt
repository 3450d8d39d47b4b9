-- A statement as it is written, and what it means: nothing where an IRI has no scheme.
use Rattle.std.specs.Prelude.{ℕ, List, Option, Some, None, if◌then◌else◌}
use Rattle.rdf_terms.specs.Iri.{has_scheme}
use Rattle.rdf_terms.specs.Reading.{◌>>=◌}
use Rattle.rdf_lines.specs.declared.written.WrittenNode.{WrittenNode}
use Rattle.rdf_lines.specs.declared.written.WrittenNode.TheVariants as written
use Rattle.rdf_lines.specs.declared.written.WrittenObject.{WrittenObject}
use Rattle.rdf_lines.specs.declared.written.WrittenObject.TheVariants as written_object
use Rattle.rdf_lines.specs.declared.written.WrittenStatement.{WrittenStatement}
use Rattle.rdf_lines.specs.declared.statement.Node.{Node}
use Rattle.rdf_lines.specs.declared.statement.Node.TheVariants as node
use Rattle.rdf_lines.specs.declared.statement.Object.{Object}
use Rattle.rdf_lines.specs.declared.statement.Object.TheVariants as object
use Rattle.rdf_lines.specs.declared.statement.Statement.{Statement}
use Rattle.rdf_lines.specs.Grammar.{typed}

abbrev pub absolute_iri : List ℕ → Option (List ℕ)
absolute_iri text = if has_scheme text then Some text else None

abbrev pub absolute_node : WrittenNode → Option Node
absolute_node (written.Label text) = Some (node.Label text)
absolute_node (written.Iri text) = do
  iri ← absolute_iri text
  Some (node.Iri iri)

abbrev pub absolute_object : WrittenObject → Option Object
absolute_object (written_object.Node place) = do
  named ← absolute_node place
  Some (object.Node named)
absolute_object (written_object.Literal literal) = Some (object.Literal literal)
absolute_object (written_object.Typed lexical datatype) = do
  iri ← absolute_iri datatype
  Some (object.Literal (typed lexical iri))

abbrev pub absolute_graph : Option WrittenNode → Option (Option Node)
absolute_graph None = Some None
absolute_graph (Some place) = do
  named ← absolute_node place
  Some (Some named)

abbrev pub absolute_statement : WrittenStatement → Option Statement
absolute_statement s = do
  subject ← absolute_node s.subject
  predicate ← absolute_iri s.predicate
  object ← absolute_object s.object
  graph ← absolute_graph s.graph
  Some (record { subject = subject; predicate = predicate; object = object; graph = graph })

-- ---- the same in two steps, as the code takes them

abbrev pub absolute_front : WrittenNode → List ℕ → Option (Node × List ℕ)
absolute_front subject predicate = do
  node ← absolute_node subject
  iri ← absolute_iri predicate
  Some (node, iri)

abbrev pub absolute_back : WrittenObject → Option WrittenNode → Option (Object × Option Node)
absolute_back object graph = do
  meant ← absolute_object object
  label ← absolute_graph graph
  Some (meant, label)
