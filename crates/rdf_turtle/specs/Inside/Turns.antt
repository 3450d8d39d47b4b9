-- Statements that are read and said.
use Rattle.std.specs.Prelude.{◌≡◌, ◌<◌, ◌+◌, ℕ, true, false, List, [], length, Option, Some, None, Result, Err}
use Rattle.rdf_grammar.specs.Readings.{Outcome}
use Rattle.rdf_terms.specs.Quad.{QuadParts}
use Rattle.rdf_turtle.specs.declared.fault.TurtleFaultKind.{TurtleFaultKind}
use Rattle.rdf_turtle.specs.declared.fault.TurtleFaultKind.TheVariants as fault
use Rattle.rdf_turtle.specs.declared.straight.Pending.{Pending}
use Rattle.rdf_turtle.specs.declared.straight.Pending.TheVariants.{Nothing, Relative, UnknownPrefix}
use Rattle.rdf_turtle.specs.declared.tree.Statement.{Statement}
use Rattle.rdf_turtle.specs.Grammar.{Document}
use Rattle.rdf_turtle.specs.Known.{known_statement, declared_behind, declares_first}
use Rattle.rdf_turtle.specs.Meaning as meaning
use Rattle.rdf_grammar.specs.Prologue as prologue
use Rattle.rdf_turtle.specs.Inside.Reading.{node, statement, document}
use Rattle.rdf_turtle.specs.Lexemes.{Lexeme, Lexemes}
use Rattle.rdf_turtle.specs.Inside.Room.{TakesAtMost}
use Rattle.rdf_turtle.specs.ParserState.{ParserState}

-- a fact that is wanted as long as all is said
abbrev pub IfNothing : Pending → Type 0 → Type 0
IfNothing Nothing P = P
IfNothing _ P = Unit {0}

-- A statement is said: the state and the declared prefixes before it, and those behind it.
pub record Said (tree : Statement) (before behind : ParserState) (declared more : List (List ℕ)) : Type 0 where
  pub known : known_statement declared tree ≡ true
  pub declares : more ≡ declared_behind declared tree
  pub says : meaning.statement tree before ≡ Some (tt, behind)
  pub prologue : prologue.declared behind.prologue ≡ declared_behind (prologue.declared before.prologue) tree
  pub room : TakesAtMost 1 before behind

-- What is pending before a statement and behind it: its prefixes are declared as long as no prefix is unknown, and it is said as long as
-- nothing is pending.
abbrev pub Becomes : Pending → Pending → Statement → ParserState → ParserState → List (List ℕ) → List (List ℕ) → Type 0
Becomes Nothing Nothing tree before behind declared more = Said tree before behind declared more
Becomes Nothing Relative tree before behind declared more =
    (known_statement declared tree ≡ true) × (more ≡ declared_behind declared tree) × (meaning.statement tree before ≡ None)
Becomes Nothing UnknownPrefix tree before behind declared more = known_statement declared tree ≡ false
Becomes Relative Nothing tree before behind declared more = ⊥
Becomes Relative Relative tree before behind declared more = (known_statement declared tree ≡ true) × (more ≡ declared_behind declared tree)
Becomes Relative UnknownPrefix tree before behind declared more = known_statement declared tree ≡ false
Becomes UnknownPrefix UnknownPrefix tree before behind declared more = Unit {0}
Becomes UnknownPrefix _ tree before behind declared more = ⊥

-- The next statement is read: the lexemes before it, and those behind it.
pub record Turn (depth : ℕ) (now then : Lexemes) (pending later : Pending) (before behind : ParserState) (declared more : List (List ℕ)) : Type 0 where
  pub tree : Statement
  pub reads : statement (node depth) (node (depth + 1)) now ≡ Some (tree, then)
  pub shorter : length then < length now
  pub becomes : Becomes pending later tree before behind declared more

-- what is pending behind all of a tree
abbrev pub LeavesPending : Pending → List Statement → ParserState → ParserState → Type 0
LeavesPending Nothing tree before behind = (declares_first [] tree ≡ true) × (meaning.document tree before ≡ Some (tt, behind))
LeavesPending Relative tree before behind = (declares_first [] tree ≡ true) × (meaning.document tree before ≡ None)
LeavesPending UnknownPrefix tree before behind = declares_first [] tree ≡ false

-- The lexemes are a document with so many brackets inside one another at most, but for one around nothing.
pub record Turns (depth : ℕ) (lexemes : Lexemes) (pending : Pending) (before behind : ParserState) : Type 0 where
  pub tree : List Statement
  pub reads : Document depth lexemes tree []
  pub leaves : LeavesPending pending tree before behind

-- the fault that is told of what is pending behind all
abbrev pub TellsPending : Pending → TurtleFaultKind → Type 0
TellsPending Nothing kind = ⊥
TellsPending Relative kind = kind ≡ fault.Relative
TellsPending UnknownPrefix kind = kind ≡ fault.UnknownPrefix

-- The lexemes are such a document, and this is answered to it.
pub record TellsDocument (depth : ℕ) (lexemes : Lexemes) (base : Option (List ℕ)) (answer : Result (List QuadParts) TurtleFaultKind) : Type 0 where
  pub tree : List Statement
  pub reads : Document depth lexemes tree []
  pub answers : meaning.answer base tree ≡ answer

-- what a fault says of a reading; want of memory says nothing
abbrev pub StopsReading : {A : Type 0} → Outcome Lexeme A → TurtleFaultKind → Type 0
StopsReading outcome fault.Syntax = outcome ≡ None
StopsReading outcome (fault.NoMemory _) = Unit {0}
StopsReading outcome _ = ⊥

-- what a fault says of lexemes: they are no such document, or this is answered to it
abbrev pub StopsWith : ℕ → Lexemes → Option (List ℕ) → TurtleFaultKind → Type 0
StopsWith depth lexemes base fault.UnknownPrefix = TellsDocument depth lexemes base (Err fault.UnknownPrefix)
StopsWith depth lexemes base fault.Relative = TellsDocument depth lexemes base (Err fault.Relative)
StopsWith depth lexemes base kind = StopsReading (document depth lexemes) kind
