-- What the bytes of a text say as an update (SPARQL 1.1 Query, section 19; SPARQL 1.1 Update, section 3): a request, or a fault.
use Rattle.std.specs.Prelude.{ℕ, List, Option, Result, Ok, Err}
use Rattle.sparql_grammar.specs.declared.tree.Part.{Part}
use Rattle.sparql_grammar.specs.OperationGrammar.{IsRequest}
use Rattle.sparql_syntax.specs.Meaning.{answer}
use Rattle.sparql_syntax.specs.Phases as phases
use Rattle.sparql_syntax.specs.Rules.{judged}
use Rattle.sparql_syntax.specs.declared.drafts.Draft.{Draft}
use Rattle.sparql_syntax.specs.declared.fault.SyntaxFault.{SyntaxFault}
use Rattle.sparql_syntax.specs.declared.fault.SyntaxFaultKind.{SyntaxFaultKind}
use Rattle.sparql_trees.specs.declared.operation.Operation.{Operation}
use Rattle.sparql_trees.specs.declared.operation.Request.{Request}

-- what is asked of the whole request before the static rules
abbrev pub ruled : Result (List Draft) SyntaxFaultKind → Result (List Operation) SyntaxFaultKind
ruled (Ok drafts) = judged drafts
ruled (Err kind) = Err kind

-- Against the base, the operations of a tree, or why it has none: each name has its IRI, and each static rule is kept.
abbrev pub meaning : Option (List ℕ) → List Part → Result (List Operation) SyntaxFaultKind
meaning base tree = ruled (answer base tree)

-- The text is a request of the grammar with this tree.
abbrev pub HasTree : List ℕ → List Part → Type 0
HasTree = phases.HasTree IsRequest

-- Against the base, the text is this request.
abbrev pub IsUpdate : Option (List ℕ) → List ℕ → Request → Type 0
IsUpdate base text request = phases.IsSaid IsRequest meaning base text request.operations

-- The text has a tree, and for this reason no operations.
abbrev pub IsRefused : Option (List ℕ) → List ℕ → SyntaxFaultKind → Type 0
IsRefused = phases.IsRefused IsRequest meaning

-- Why a text is no request, and the line of the place that shows it.
abbrev pub FaultIs : Option (List ℕ) → List ℕ → SyntaxFaultKind → ℕ → Type 0
FaultIs = phases.FaultIs IsRequest meaning

abbrev pub IsFaulty : Option (List ℕ) → List ℕ → SyntaxFault → Type 0
IsFaulty = phases.IsFaulty IsRequest meaning

-- A fault that a reader answers, by its kind: the text's, or want of memory, which tells nothing of the text.
abbrev pub TellsFault : Option (List ℕ) → List ℕ → SyntaxFault → SyntaxFaultKind → Type 0
TellsFault = phases.TellsFault IsRequest meaning
