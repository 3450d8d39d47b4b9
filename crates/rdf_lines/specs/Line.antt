-- What the bytes of a line say: what they read as, or the first fault that applies.
use Rattle.std.specs.Prelude.{◌≡◌, ℕ, List, Option, Some, None, Result, Ok, Err, IsTrue}
use Rattle.std.specs.Str.{chars, is_utf8, IsUtf8}
use Rattle.rdf_terms.specs.Iri.{has_scheme, is_iri}
use Rattle.rdf_terms.specs.Literal.{is_literal}
use Rattle.rdf_lines.specs.declared.fault.FaultKind.{FaultKind}
use Rattle.rdf_lines.specs.declared.fault.FaultKind.TheVariants.{NotUtf8, Syntax, Relative, Read, NoMemory, Failed}
use Rattle.rdf_lines.specs.declared.format.LineFormat.{LineFormat}
use Rattle.rdf_lines.specs.declared.statement.Node.{Node}
use Rattle.rdf_lines.specs.declared.statement.Node.TheVariants as node
use Rattle.rdf_lines.specs.declared.statement.Object.{Object}
use Rattle.rdf_lines.specs.declared.statement.Object.TheVariants as object
use Rattle.rdf_lines.specs.declared.statement.Statement.{Statement}
use Rattle.rdf_lines.specs.Grammar.{Holds}

-- ---- each IRI has a scheme (RFC 3986, section 3.1), a datatype too

abbrev pub IsAbsoluteNode : Node → Type 0
IsAbsoluteNode (node.Label text) = Unit {0}
IsAbsoluteNode (node.Iri text) = IsTrue (has_scheme text)

abbrev pub IsAbsoluteObject : Object → Type 0
IsAbsoluteObject (object.Node place) = IsAbsoluteNode place
IsAbsoluteObject (object.Literal literal) = IsTrue (has_scheme literal.datatype)

abbrev pub IsAbsoluteGraph : Option Node → Type 0
IsAbsoluteGraph None = Unit {0}
IsAbsoluteGraph (Some place) = IsAbsoluteNode place

abbrev pub IsAbsolute : Option Statement → Type 0
IsAbsolute None = Unit {0}
IsAbsolute (Some statement) =
    IsAbsoluteNode statement.subject × IsTrue (has_scheme statement.predicate) × IsAbsoluteObject statement.object × IsAbsoluteGraph statement.graph

-- ---- answers

-- The line says nothing, one statement, or is faulty: no UTF-8, else with no reading, else with an IRI without a scheme.
abbrev pub LineSays : LineFormat → List ℕ → Result (Option Statement) FaultKind → Type 0
LineSays format line (Ok reading) = IsUtf8 line × Holds format (chars line) reading × IsAbsolute reading
LineSays format line (Err NotUtf8) = ¬ (IsUtf8 line)
LineSays format line (Err Syntax) = IsUtf8 line × ((reading : Option Statement) → ¬ (Holds format (chars line) reading))
LineSays format line (Err Relative) = IsUtf8 line × ((reading : Option Statement) × Holds format (chars line) reading × ¬ (IsAbsolute reading))
LineSays format line (Err Read) = ⊥
LineSays format line (Err (NoMemory _)) = ⊥
LineSays format line (Err Failed) = ⊥

-- An answer of a reader: want of memory tells nothing of the line.
abbrev pub LineTells : LineFormat → List ℕ → Result (Option Statement) FaultKind → Type 0
LineTells format line (Ok reading) = LineSays format line (Ok reading)
LineTells format line (Err NotUtf8) = LineSays format line (Err NotUtf8)
LineTells format line (Err Syntax) = LineSays format line (Err Syntax)
LineTells format line (Err Relative) = LineSays format line (Err Relative)
LineTells format line (Err Read) = ⊥
LineTells format line (Err (NoMemory _)) = Unit {0}
LineTells format line (Err Failed) = ⊥

-- no line says two things
abbrev pub OneAnswer : Type 0
OneAnswer = (format : LineFormat) (line : List ℕ) (a b : Result (Option Statement) FaultKind) → LineSays format line a → LineSays format line b → a ≡ b

-- each line says something
abbrev pub SomeAnswer : Type 0
SomeAnswer = (format : LineFormat) (line : List ℕ) → ((a : Result (Option Statement) FaultKind) × LineSays format line a)

-- ---- what a line says are sound terms: texts of Unicode characters, IRIs and literals

abbrev pub IsSoundNode : Node → Type 0
IsSoundNode (node.Label text) = IsTrue (is_utf8 text)
IsSoundNode (node.Iri text) = IsTrue (is_iri text)

abbrev pub IsSoundObject : Object → Type 0
IsSoundObject (object.Node place) = IsSoundNode place
IsSoundObject (object.Literal literal) = IsTrue (is_literal literal)

abbrev pub IsSoundGraph : Option Node → Type 0
IsSoundGraph None = Unit {0}
IsSoundGraph (Some place) = IsSoundNode place

abbrev pub IsSoundStatement : Statement → Type 0
IsSoundStatement s = IsSoundNode s.subject × IsTrue (is_iri s.predicate) × IsSoundObject s.object × IsSoundGraph s.graph

abbrev pub StatementsAreSound : Type 0
StatementsAreSound = (format : LineFormat) (line : List ℕ) (s : Statement) → LineSays format line (Ok (Some s)) → IsSoundStatement s
