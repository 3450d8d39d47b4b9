-- The triples whose lines a text is: what its lines say (RDF 1.1 N-Quads, section 2), with the number of a blank node in its label.
use Rattle.std.specs.Prelude.{◌≡◌, ◌≤◌, ℕ, List, [], ◌∷◌, drop, length, map, Option, Some, None, Result, Ok, Err}
use Rattle.std.specs.List.{AllByRecursion}
use Rattle.std.specs.Str.Parse.{digits_value}
use Rattle.rdf_terms.specs.Quad.{QuadParts}
use Rattle.rdf_terms.specs.declared.term.Term.{Term}
use Rattle.rdf_terms.specs.declared.term.Term.TheVariants as term
use Rattle.rdf_terms.specs.declared.quad.GraphName.TheVariants.{Default}
use Rattle.rdf_lines.specs.Lines.{lines}
use Rattle.rdf_lines.specs.declared.fault.FaultKind.{FaultKind}
use Rattle.rdf_lines.specs.declared.format.LineFormat.TheVariants.{NQuads}
use Rattle.rdf_lines.specs.declared.statement.Node.{Node}
use Rattle.rdf_lines.specs.declared.statement.Node.TheVariants.{Label, Iri}
use Rattle.rdf_lines.specs.declared.statement.Object.{Object}
use Rattle.rdf_lines.specs.declared.statement.Object.TheVariants.{Node as OfNode, Literal as OfLiteral}
use Rattle.rdf_lines.specs.declared.statement.Statement.{Statement}
use Rattle.rdf_lines.proofs.CallerLemmas.{some_answer}
use Rattle.rdf_turtle.specs.WrittenLaws.{IsDefaultQuad}
use Rattle.rdf_streams.specs.Conversion.Converts.{lines_of}
use Rattle.rdf_streams.specs.Inside.Parts.{Holds, text_of}
use Rattle.rdf_streams.specs.declared.conversion.held.Held.{Held}

-- the term that a node is, where a blank node's label is `b` and its number
abbrev pub term_of : Node → Term
term_of (Label label) = term.Blank (digits_value 10 (drop 1 label))
term_of (Iri iri) = term.Iri iri

abbrev pub object_term : Object → Term
object_term (OfNode node) = term_of node
object_term (OfLiteral literal) = term.Literal literal

abbrev pub triple_said : Statement → QuadParts
triple_said s = record { graph = Default; subject = term_of s.subject; predicate = term.Iri s.predicate; object = object_term s.object }

-- the statement, if an answer is one, before others
abbrev pub before : Result (Option Statement) FaultKind → List Statement → List Statement
before (Ok (Some s)) others = s ∷ others
before (Ok None) others = others
before (Err fault) others = others

-- what lines say: each says one thing
abbrev pub statements_in : List (List ℕ) → List Statement
statements_in [] = []
statements_in (line ∷ more) = before (some_answer NQuads line).0 (statements_in more)

unfoldable pub triples_in : List ℕ → List QuadParts
triples_in text = map triple_said (statements_in (lines text))

-- The text is the lines of its triples, each of which is well formed.
pub record AreLinesOfTriples (text : List ℕ) : Type 0 where
  pub are : text ≡ lines_of (triples_in text)
  pub well_formed : AllByRecursion IsDefaultQuad (triples_in text)

-- The lines of so many triples are held, no more of them than parts.
pub record AreHeldLines (held : Held) (count : ℕ) : Type 0 where
  pub holds : Holds held
  pub lines : AreLinesOfTriples (text_of held)
  pub counted : count ≡ length (triples_in (text_of held))
  pub few : count ≤ length held.parts.items
