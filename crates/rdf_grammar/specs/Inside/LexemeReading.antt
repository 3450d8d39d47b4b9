-- Reading lexemes from left to right, each from the text when it is asked for.
use Rattle.std.specs.Prelude.{ℕ, List, [], ◌∷◌, Option, Some, None}
use Rattle.rdf_terms.specs.Reading.{between}
use Rattle.std.specs.Str.{encode_utf8_all}
use Rattle.rdf_tokens.specs.declared.token.Kind.{Kind}
use Rattle.rdf_tokens.specs.Inside.EachToken.{of_each}
use Rattle.rdf_grammar.specs.declared.lexeme.Lexeme.{Lexeme}
use Rattle.rdf_grammar.specs.Lexemes.{unread}
use Rattle.rdf_grammar.specs.Terminals.{Lexemes}

-- terminal tells the terminal of a token by its kind and the UTF-8 of its slice
module _ {T : Type 0} (terminal : Kind → List ℕ → T) where
  -- the lexeme of a slice with the form of that kind
  abbrev pub lexeme_of : Kind → List ℕ → Lexeme T
  lexeme_of kind slice = record { terminal = terminal kind (encode_utf8_all slice); text = slice }

  -- the lexemes of a text
  unfoldable pub lexemes_of : List ℕ → Lexemes T
  lexemes_of = of_each (λ kind start after. lexeme_of kind (between start after)) (λ start. unread terminal)

  -- the lexemes of a text, if there is one, and otherwise these
  abbrev pub following : Option (List ℕ) → Lexemes T → Lexemes T
  following None lexemes = lexemes
  following (Some cs) lexemes = lexemes_of cs

-- what comes next, by its terminal and its text, and what follows it
abbrev pub ahead : {T : Type 0} → Option T → List ℕ → Lexemes T → Lexemes T
ahead None text rest = []
ahead (Some terminal) text rest = record { terminal = terminal; text = text } ∷ rest

-- as many as can be counted
abbrev pub most : ℕ
most = 18446744073709551615
