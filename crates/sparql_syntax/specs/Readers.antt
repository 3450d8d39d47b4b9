-- What a reader is told of lexemes and of their tree, in any language of SPARQL.
use Rattle.std.specs.Prelude.{◌≡◌, Result, Ok, Err}
use Rattle.rdf_grammar.specs.declared.fault.GrammarFault.{GrammarFault}
use Rattle.rdf_grammar.specs.declared.fault.GrammarFault.TheVariants as grammar
use Rattle.sparql_drafts.specs.declared.fault.DraftFault.{DraftFault}
use Rattle.sparql_drafts.specs.declared.fault.DraftFault.TheVariants as draft
use Rattle.sparql_grammar.specs.Nesting.{IsTooDeep}
use Rattle.sparql_terminals.specs.Lexemes.{Lexemes}
use Rattle.sparql_syntax.specs.declared.fault.SyntaxFaultKind.{SyntaxFaultKind}
use Rattle.sparql_syntax.specs.declared.fault.SyntaxFaultKind.TheVariants as fault

-- what a fault of the parser says of the lexemes: they have no tree, if brackets don't nest too deep
abbrev pub Explains : {Tree : Type 0} → (Lexemes → Tree → Type 0) → Lexemes → GrammarFault → Type 0
Explains {Tree} Derives ts grammar.Syntax = ¬ (IsTooDeep ts) → (tree : Tree) → ¬ (Derives ts tree)
Explains Derives ts (grammar.NoMemory refused) = Unit {0}

-- why drafts aren't made of a tree whose prefixes are declared
abbrev pub kind_of : DraftFault → SyntaxFaultKind
kind_of draft.NoIri = fault.Relative
kind_of (draft.NoMemory refused) = fault.NoMemory refused

-- a tree says nothing for such a reason: a name without an IRI, or a static rule
abbrev pub IsOfTree : SyntaxFaultKind → Type 0
IsOfTree fault.UnknownPrefix = Unit {0}
IsOfTree fault.Relative = Unit {0}
IsOfTree fault.BlankInDelete = Unit {0}
IsOfTree fault.VariableInData = Unit {0}
IsOfTree fault.LiteralSubject = Unit {0}
IsOfTree fault.BlankReused = Unit {0}
IsOfTree _ = ⊥

-- what is answered of what a tree means, unless memory was wanting
abbrev pub TellsMeaning : {Said : Type 0} → Result Said SyntaxFaultKind → Result Said SyntaxFaultKind → Type 0
TellsMeaning meaning (Ok said) = meaning ≡ Ok said
TellsMeaning meaning (Err (fault.NoMemory refused)) = Unit {0}
TellsMeaning meaning (Err kind) = (meaning ≡ Err kind) × IsOfTree kind
