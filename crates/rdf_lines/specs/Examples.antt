-- Characters of labels over ASCII, lines as the standards' own texts have them, and what is written (RDF 1.1 N-Triples, sections 2, 4 and 7; RDF 1.1
-- N-Quads, sections 2 and 4).
use Rattle.std.specs.Prelude.{◌≡◌, ℕ, Bool, List, [], ◌∷◌, codes, filter, Option, Some, None}
use Rattle.std.specs.List.{range_with_len}
use Rattle.rdf_terms.specs.Literal.{tagged, xsd_string}
use Rattle.rdf_terms.specs.Vocabulary.{xsd_integer}
use Rattle.rdf_terms.specs.declared.quad.GraphName.{GraphName}
use Rattle.rdf_terms.specs.declared.quad.GraphName.TheVariants.{Default, Named}
use Rattle.rdf_terms.specs.declared.quad.Quad.{Quad}
use Rattle.rdf_terms.specs.declared.term.Term.{Term}
use Rattle.rdf_terms.specs.declared.term.Term.TheVariants as term
use Rattle.rdf_lines.specs.declared.format.LineFormat.{LineFormat}
use Rattle.rdf_lines.specs.declared.format.LineFormat.TheVariants.{NTriples, NQuads}
use Rattle.rdf_lines.specs.declared.statement.Node.{Node}
use Rattle.rdf_lines.specs.declared.statement.Node.TheVariants as node
use Rattle.rdf_lines.specs.declared.statement.Object.{Object}
use Rattle.rdf_lines.specs.declared.statement.Object.TheVariants as object
use Rattle.rdf_lines.specs.declared.statement.Statement.{Statement}
use Rattle.rdf_lines.specs.Grammar.{Holds, is_label_part, is_label_start, is_white, typed}
use Rattle.rdf_lines.specs.QuadText.{quad_text}
use Rattle.rdf_lines.specs.StateText.{state_text}

-- the characters of ASCII that a class has, in order
abbrev pub ascii : (ℕ → Bool) → List ℕ
ascii class = filter class (range_with_len 0 128)

pub record ClassTable : Type 0 where
  -- tab and space
  pub white : ascii is_white ≡ codes "\t "
  -- in a line `:` may stand anywhere in a label, and a digit or `_` first; `-` goes on with one
  pub starts : ascii is_label_start ≡ codes "0123456789:ABCDEFGHIJKLMNOPQRSTUVWXYZ_abcdefghijklmnopqrstuvwxyz"
  pub parts : ascii is_label_part ≡ codes "-0123456789:ABCDEFGHIJKLMNOPQRSTUVWXYZ_abcdefghijklmnopqrstuvwxyz"

-- ---- lines

abbrev pub says : Node → List ℕ → Object → Option Node → Option Statement
says subject predicate object graph = Some (record { subject = subject; predicate = predicate; object = object; graph = graph })

-- the line has no reading
abbrev pub HoldsNothing : LineFormat → List ℕ → Type 0
HoldsNothing format line = (reading : Option Statement) → ¬ (Holds format line reading)

abbrev pub a : Node
a = node.Label (codes "a")

abbrev pub p : List ℕ
p = codes "http://p"

abbrev pub text : List ℕ → Object
text lexical = object.Literal (typed lexical xsd_string)

pub record LineTable : Type 0 where
  -- N-Triples, sections 2 and 2.1
  pub comment_behind :
      Holds NTriples (codes "<http://s> <http://p> <http://o> . # comments here") (says (node.Iri (codes "http://s")) p (object.Node (node.Iri (codes "http://o"))) None)
  pub comment : Holds NTriples (codes "# or on a line by themselves") None
  pub nothing : Holds NTriples (codes " \t") None
  -- a tag, and a datatype, which stand behind the string with white space before them or none
  pub tagged_string : Holds NTriples (codes "_:a <http://p> \"That Seventies Show\"@en .") (says a p (object.Literal (tagged (codes "That Seventies Show") (codes "en"))) None)
  pub typed_string : Holds NTriples (codes "_:a <http://p> \"2\"^^<http://www.w3.org/2001/XMLSchema#integer> .") (says a p (object.Literal (typed (codes "2") xsd_integer)) None)
  -- no white space is wanted, and tabs are as good as spaces
  pub dense : Holds NTriples (codes "_:a<http://p>\"x\".") (says a p (text (codes "x")) None)
  pub tabs : Holds NTriples (codes "\t_:a\t<http://p> \t\"x\"\t.\t") (says a p (text (codes "x")) None)
  pub escapes : Holds NTriples (codes "_:a <http://p> \"\\u0041\\n\" .") (says a p (text (codes "A\n")) None)
  -- a label goes on as long as it can, but ends in no dot
  pub labels : Holds NTriples (codes "_:0:a.b <http://p> _:c.") (says (node.Label (codes "0:a.b")) p (object.Node (node.Label (codes "c"))) None)
  -- a literal is no subject, and a statement ends in a dot, behind which comments alone stand
  pub no_subject : HoldsNothing NTriples (codes "\"x\" <http://p> _:a .")
  pub no_dot : HoldsNothing NTriples (codes "_:a <http://p> \"x\"")
  pub one_alone : HoldsNothing NTriples (codes "_:a <http://p> \"x\" . _:a <http://p> \"x\" .")
  -- N-Quads, section 2: a fourth place names the graph, which N-Triples doesn't have
  pub graph : Holds NQuads (codes "_:a <http://p> \"x\" <http://g> .") (says a p (text (codes "x")) (Some (node.Iri (codes "http://g"))))
  pub blank_graph : Holds NQuads (codes "_:a <http://p> \"x\" _:g .") (says a p (text (codes "x")) (Some (node.Label (codes "g"))))
  pub no_graph : Holds NQuads (codes "_:a <http://p> \"x\" .") (says a p (text (codes "x")) None)
  pub triples_alone : HoldsNothing NTriples (codes "_:a <http://p> \"x\" <http://g> .")
  pub no_literal : HoldsNothing NQuads (codes "_:a <http://p> \"x\" \"g\" .")

-- ---- what is written

abbrev pub g : Term
g = term.Iri (codes "http://g")

-- `<http://s> <http://p> "x" .`, in the default graph or in one that has a name
abbrev pub example : GraphName → Quad
example graph =
    record { graph = graph; subject = term.Iri (codes "http://s"); predicate = term.Iri (codes "http://p"); object = term.Literal (typed (codes "x") xsd_string) }

pub record WrittenTable : Type 0 where
  -- one space between two parts, and before the dot (N-Triples, section 4)
  pub triple : quad_text (example Default) ≡ codes "<http://s> <http://p> \"x\" .\n"
  pub quad : quad_text (example (Named g)) ≡ codes "<http://s> <http://p> \"x\" <http://g> .\n"
  -- the state text, a line for its version, the counter, each name and each quad
  pub state :
      state_text 5 (g ∷ []) (example Default ∷ example (Named g) ∷ [])
      ≡ codes "#% rdfkeep state 2\n#% next 5\n#% graph <http://g>\n<http://s> <http://p> \"x\" .\n<http://s> <http://p> \"x\" <http://g> .\n"
