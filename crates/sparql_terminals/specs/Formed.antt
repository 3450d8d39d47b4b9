-- Lexemes that have the forms of tokens with their terminals, as those of a text do.
use Rattle.std.specs.Prelude.{◌≡◌}
use Rattle.std.specs.List.{AllByRecursion}
use Rattle.rdf_tokens.specs.declared.token.Kind.{Kind}
use Rattle.rdf_tokens.specs.Forms.{HasForm}
use Rattle.sparql_terminals.specs.Lexemes.{Lexeme, Lexemes}
use Rattle.sparql_terminals.specs.Terminals.{terminal_of}

pub record Formed (t : Lexeme) : Type 0 where
  pub kind : Kind
  pub form : HasForm kind t.text
  pub is : t.terminal ≡ terminal_of kind t.text

abbrev pub AllFormed : Lexemes → Type 0
AllFormed ts = AllByRecursion Formed ts
