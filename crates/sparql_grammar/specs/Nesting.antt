-- How many brackets are open in lexemes of SPARQL.
use Rattle.std.specs.Prelude.{ℕ}
use Rattle.rdf_grammar.specs.Nesting as nesting
use Rattle.sparql_terminals.specs.Lexemes.{Lexemes}
use Rattle.sparql_terminals.specs.Terminals.{bracket}

-- the brackets that are open behind these lexemes, where so many were open before
abbrev pub open_after : ℕ → Lexemes → ℕ
open_after = nesting.open_after bracket

-- behind some of the lexemes more are open than may be
abbrev pub IsTooDeep : Lexemes → Type 0
IsTooDeep = nesting.IsTooDeep bracket

-- the lexeme at this place is the first behind which more are open than may be
abbrev pub IsTooDeepAt : Lexemes → ℕ → Type 0
IsTooDeepAt = nesting.IsTooDeepAt bracket
