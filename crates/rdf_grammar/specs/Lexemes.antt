-- Tokens as a grammar sees them.
use Rattle.std.specs.Prelude.{◌≡◌, ℕ, List, [], ◌∷◌, ◌++◌, Result, Ok, Err}
use Rattle.std.specs.Str.{encode_utf8_all}
use Rattle.rdf_tokens.specs.declared.token.Kind.{Kind}
use Rattle.rdf_tokens.specs.declared.token.Kind.TheVariants.{Symbol}
use Rattle.rdf_tokens.specs.declared.token.Token.{Token}
use Rattle.rdf_tokens.specs.Forms.{HasForm}
use Rattle.rdf_tokens.specs.Tokens.{HasGap, NoToken, At, Stands, AreTokens, Tokenizes}
use Rattle.rdf_grammar.specs.declared.lexeme.Lexeme.{Lexeme}
use Rattle.rdf_grammar.specs.Terminals.{Lexemes}

-- terminal tells the terminal of a token by its kind and the UTF-8 of its slice
module _ {T : Type 0} (terminal : Kind → List ℕ → T) where
  -- the token's slice, and its terminal
  abbrev pub IsLexeme : List ℕ → Token → Lexeme T → Type 0
  IsLexeme text token lexeme =
      Stands text token.start token.stop lexeme.text × (lexeme.terminal ≡ terminal token.kind (encode_utf8_all lexeme.text))

  -- one lexeme a token, in order
  abbrev pub AreLexemes : List ℕ → List Token → Lexemes T → Type 0
  AreLexemes text [] [] = Unit {0}
  AreLexemes text [] (lexeme ∷ lexemes) = ⊥
  AreLexemes text (token ∷ tokens) [] = ⊥
  AreLexemes text (token ∷ tokens) (lexeme ∷ lexemes) = IsLexeme text token lexeme × AreLexemes text tokens lexemes

  -- a lexeme that no token is: a symbol of no characters
  abbrev pub unread : Lexeme T
  unread = record { terminal = terminal Symbol []; text = [] }

  -- What is read of a text that says this: one lexeme a token. Where the text has no token list, one for each token before the
  -- first place where none begins, and one that no token is.
  abbrev pub AreReadFrom : List ℕ → Result (List Token) ℕ → Lexemes T → Type 0
  AreReadFrom text (Ok tokens) lexemes = AreLexemes text tokens lexemes
  AreReadFrom text (Err place) lexemes =
      (tokens : List Token) × (rest start : List ℕ) × (front : Lexemes T) × AreTokens text text tokens rest × HasGap rest start
      × NoToken start × At text place start × AreLexemes text tokens front × (lexemes ≡ front ++ unread ∷ [])

  -- the lexemes that are read of a text
  abbrev pub AreReadOf : List ℕ → Lexemes T → Type 0
  AreReadOf text lexemes = (answer : Result (List Token) ℕ) × Tokenizes text answer × AreReadFrom text answer lexemes

-- each lexeme's slice has the form of its token's kind
abbrev pub HaveForms : {T : Type 0} → List Token → Lexemes T → Type 0
HaveForms [] [] = Unit {0}
HaveForms [] (lexeme ∷ lexemes) = ⊥
HaveForms (token ∷ tokens) [] = ⊥
HaveForms (token ∷ tokens) (lexeme ∷ lexemes) = HasForm token.kind lexeme.text × HaveForms tokens lexemes

-- ---- laws

-- the lexemes of a token list have the forms of its tokens
abbrev pub LexemesHaveForms : {T : Type 0} → (Kind → List ℕ → T) → Type 0
LexemesHaveForms {T} terminal =
    (text from rest : List ℕ) (tokens : List Token) (lexemes : Lexemes T)
    → AreTokens text from tokens rest → AreLexemes terminal text tokens lexemes → HaveForms tokens lexemes
