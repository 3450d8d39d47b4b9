-- A text says one thing: a request, or a fault.
use Rattle.std.specs.Prelude.{◌≡◌, ◌⊎◌, ℕ, Bool, true, false, List, Option}
use Rattle.sparql_trees.specs.declared.operation.Request.{Request}
use Rattle.sparql_syntax.specs.declared.fault.SyntaxFault.{SyntaxFault}
use Rattle.sparql_syntax.specs.declared.fault.SyntaxFaultKind.{SyntaxFaultKind}
use Rattle.sparql_syntax.specs.declared.fault.SyntaxFaultKind.TheVariants.{NotUtf8, Token, NotInProfile, TooDeep, Syntax, UnknownPrefix, Relative, BlankInDelete, VariableInData, LiteralSubject, BlankReused, NoMemory}
use Rattle.sparql_syntax.specs.Update.{IsUpdate, IsFaulty}

-- The kinds of faults whose line is the reader's own choice among those of the text.
abbrev pub has_free_line : SyntaxFaultKind → Bool
has_free_line Syntax = true
has_free_line UnknownPrefix = false
has_free_line Relative = false
has_free_line BlankInDelete = false
has_free_line VariableInData = false
has_free_line LiteralSubject = false
has_free_line BlankReused = false
has_free_line NotUtf8 = false
has_free_line Token = false
has_free_line NotInProfile = false
has_free_line TooDeep = false
has_free_line (NoMemory refused) = false

-- the same fault, but for a line that is free
abbrev pub SameFault : SyntaxFault → SyntaxFault → Type 0
SameFault a b = (a.kind ≡ b.kind) × ((has_free_line a.kind ≡ false) → a.line ≡ b.line)

-- each text is a request or faulty, against each base
abbrev pub SomeMeaning : Type 0
SomeMeaning = (base : Option (List ℕ)) (text : List ℕ) → ((request : Request) × IsUpdate base text request) ⊎ ((fault : SyntaxFault) × IsFaulty base text fault)

abbrev pub OneRequest : Type 0
OneRequest = (base : Option (List ℕ)) (text : List ℕ) (a b : Request) → IsUpdate base text a → IsUpdate base text b → a ≡ b

abbrev pub NeverBoth : Type 0
NeverBoth = (base : Option (List ℕ)) (text : List ℕ) (request : Request) (fault : SyntaxFault) → IsUpdate base text request → ¬ (IsFaulty base text fault)

abbrev pub OneFault : Type 0
OneFault = (base : Option (List ℕ)) (text : List ℕ) (a b : SyntaxFault) → IsFaulty base text a → IsFaulty base text b → SameFault a b
