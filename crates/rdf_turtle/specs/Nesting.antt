-- How many brackets are open in lexemes of Turtle.
use Rattle.std.specs.Prelude.{ℕ}
use Rattle.rdf_grammar.specs.Nesting as nesting
use Rattle.rdf_turtle.specs.declared.terminal.Terminal.{Terminal}
use Rattle.rdf_turtle.specs.Terminals.{bracket}
use Rattle.rdf_turtle.specs.Lexemes.{Lexemes}

abbrev pub open_behind : ℕ → Terminal → ℕ
open_behind = nesting.open_behind bracket

-- the brackets that are open behind these lexemes, where so many were open before
abbrev pub open_after : ℕ → Lexemes → ℕ
open_after = nesting.open_after bracket

-- behind some of the lexemes more are open than may be
abbrev pub IsTooDeep : Lexemes → Type 0
IsTooDeep = nesting.IsTooDeep bracket

-- the lexeme at this place is the first behind which more are open than may be
abbrev pub IsTooDeepAt : Lexemes → ℕ → Type 0
IsTooDeepAt = nesting.IsTooDeepAt bracket
