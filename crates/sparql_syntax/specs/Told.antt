-- The faults that are told of a text, by what its parts answer.
use Rattle.std.specs.Prelude.{◌≡◌, ℕ, List, Option, Result}
use Rattle.rdf_grammar.specs.declared.fault.GrammarFault.{GrammarFault}
use Rattle.rdf_grammar.specs.declared.fault.GrammarFault.TheVariants as grammar
use Rattle.rdf_terms.specs.declared.fault.NoMemory.{NoMemory}
use Rattle.rdf_tokens.specs.Lines.{line_of}
use Rattle.sparql_terminals.specs.Lexemes.{Lexemes}
use Rattle.sparql_syntax.specs.declared.fault.SyntaxFault.{SyntaxFault}
use Rattle.sparql_syntax.specs.declared.fault.SyntaxFaultKind.{SyntaxFaultKind}
use Rattle.sparql_syntax.specs.declared.fault.SyntaxFaultKind.TheVariants as kind
use Rattle.sparql_syntax.specs.Phases.{TellsFault}
use Rattle.sparql_syntax.specs.Survey.{IsStop}

-- the fault is told of the text, whatever the base is
abbrev pub IsTold : {Tree Said : Type 0} → (Lexemes → Tree → Type 0) → (Option (List ℕ) → Tree → Result Said SyntaxFaultKind) → List ℕ → SyntaxFault → Type 0
IsTold Derives meaning text f = (base : Option (List ℕ)) → TellsFault Derives meaning base text f f.kind

abbrev pub fault_at : List ℕ → SyntaxFaultKind → ℕ → SyntaxFault
fault_at text kind start = record { line = line_of text start; kind = kind }

abbrev pub wants_memory : NoMemory → SyntaxFault
wants_memory refused = record { line = 0; kind = kind.NoMemory refused }

-- the fault of a text whose parser stopped with so many lexemes left
abbrev pub IsStopFault : List ℕ → GrammarFault → ℕ → SyntaxFault → Type 0
IsStopFault text grammar.Syntax left f = (start : ℕ) × IsStop text left start × (f ≡ fault_at text kind.Syntax start)
IsStopFault text (grammar.NoMemory refused) left f = f ≡ wants_memory refused
