-- Tokens as SPARQL's grammar sees them, and what is read and derived of them.
use Rattle.std.specs.Prelude.{ℕ, List}
use Rattle.rdf_tokens.specs.declared.token.Token.{Token}
use Rattle.rdf_grammar.specs.declared.lexeme.Lexeme as declared
use Rattle.rdf_grammar.specs.Derivations as derivations
use Rattle.rdf_grammar.specs.Lexemes as lexemes
use Rattle.rdf_grammar.specs.Readings as readings
use Rattle.rdf_grammar.specs.Terminals as terminals
use Rattle.rdf_grammar.specs.Terminals.{Slice}
use Rattle.sparql_terminals.specs.declared.terminal.Terminal.{Terminal}
use Rattle.sparql_terminals.specs.Terminals.{terminal_by, same_terminal}

abbrev pub Lexeme : Type 0
Lexeme = declared.Lexeme Terminal

abbrev pub Lexemes : Type 0
Lexemes = List Lexeme

abbrev pub IsLexeme : List ℕ → Token → Lexeme → Type 0
IsLexeme = lexemes.IsLexeme terminal_by

-- one lexeme a token, in order
abbrev pub AreLexemes : List ℕ → List Token → Lexemes → Type 0
AreLexemes = lexemes.AreLexemes terminal_by

abbrev pub LexemesHaveForms : Type 0
LexemesHaveForms = lexemes.LexemesHaveForms terminal_by

-- ---- readings and derivations

abbrev pub Outcome : Type 0 → Type 0
Outcome = readings.Outcome Lexeme

abbrev pub Reading : Type 0 → Type 0
Reading = readings.Reading Lexeme

abbrev pub Test : Type 0
Test = readings.Test Lexeme

abbrev pub Derives : Type 0 → Type 1
Derives = derivations.Derives Lexeme

-- whether a lexeme of this terminal comes next
abbrev pub sees : Terminal → Test
sees = terminals.sees same_terminal

-- a lexeme of this terminal
abbrev pub the : Terminal → Reading (Unit {0})
the = terminals.the same_terminal

-- a lexeme of this terminal, and its characters
abbrev pub value : Terminal → Reading Slice
value = terminals.value same_terminal

-- this reading, again behind each lexeme of this terminal
abbrev pub each_behind : {A : Type 0} → Terminal → Reading A → Reading (List A)
each_behind = terminals.each_behind same_terminal

-- and once before them
abbrev pub separated : {A : Type 0} → Terminal → Reading A → Reading (List A)
separated = terminals.separated same_terminal

-- where it may be left out behind one, and is there if the next lexemes pass the test
abbrev pub separated_loosely : {A : Type 0} → Terminal → Test → Reading A → Reading (List A)
separated_loosely = terminals.separated_loosely same_terminal
