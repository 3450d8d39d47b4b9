-- Lexemes that the grammar has a use for.
use Rattle.std.specs.Prelude.{◌≡◌, Bool, true, false}
use Rattle.std.specs.List.{AllByRecursion}
use Rattle.sparql_terminals.specs.declared.terminal.Terminal.{Terminal}
use Rattle.sparql_terminals.specs.declared.terminal.Terminal.TheVariants as terminal
use Rattle.sparql_terminals.specs.Lexemes.{Lexeme, Lexemes}

-- whether the grammar has no use for it
abbrev pub is_other : Terminal → Bool
is_other terminal.Other = true
is_other _ = false

abbrev pub AreUseful : Lexemes → Type 0
AreUseful ts = AllByRecursion (λ (t : Lexeme). is_other t.terminal ≡ false) ts
