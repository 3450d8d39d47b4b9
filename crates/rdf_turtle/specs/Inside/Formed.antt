-- Lexemes of a text: characters of Unicode, in the form of a token with this terminal. What no token is has a terminal that Turtle has no use for.
use Rattle.std.specs.Prelude.{◌≡◌, ◌≢◌, true}
use lib.Utf8.{scalars}
use Rattle.rdf_turtle.specs.Lexemes.{Lexeme}
use Rattle.rdf_tokens.specs.declared.token.Kind.{Kind}
use Rattle.rdf_tokens.specs.Forms.{HasForm}
use Rattle.rdf_turtle.specs.declared.terminal.Terminal.TheVariants as terminal
use Rattle.rdf_turtle.specs.Terminals.{terminal_of}

pub record HasKind (t : Lexeme) : Type 0 where
  pub kind : Kind
  pub form : HasForm kind t.text
  pub is : t.terminal ≡ terminal_of kind t.text

pub record Formed (t : Lexeme) : Type 0 where
  pub scalar : scalars t.text ≡ true
  pub told : t.terminal ≢ terminal.Other → HasKind t
