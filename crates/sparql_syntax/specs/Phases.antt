-- What the bytes of a text say in a language of SPARQL, or its fault, phase by phase (SPARQL 1.1 Query, section 19): the language is a relation
-- of lexemes and trees, with what a tree means against a base, or why it means nothing.
use Rattle.std.specs.Prelude.{◌≡◌, ℕ, List, Option, Some, Result, Ok, Err, is_some}
use Rattle.std.specs.Str.{chars, IsUtf8, IsValidUpTo}
use Rattle.std.specs.List.{slice_get}
use Rattle.rdf_grammar.specs.Walks.{start_of}
use Rattle.rdf_tokens.specs.declared.token.Token.{Token}
use Rattle.rdf_tokens.specs.Lines.{line_of}
use Rattle.rdf_tokens.specs.Tokens.{Tokenizes}
use Rattle.sparql_terminals.specs.Lexemes.{Lexeme, Lexemes, AreLexemes}
use Rattle.sparql_grammar.specs.Nesting.{IsTooDeep, IsTooDeepAt}
use Rattle.sparql_terminals.specs.Profile.{AreInside, IsFirstOutside}
use Rattle.sparql_syntax.specs.declared.fault.SyntaxFault.{SyntaxFault}
use Rattle.sparql_syntax.specs.declared.fault.SyntaxFaultKind.{SyntaxFaultKind}
use Rattle.sparql_syntax.specs.declared.fault.SyntaxFaultKind.TheVariants as fault
use Rattle.sparql_syntax.specs.BrokenRules.{first_broken}
use Rattle.sparql_syntax.specs.FaultyNames.{first_unbound, first_lacking}

-- The text is UTF-8, these are its tokens, and these are the tokens as the grammar sees them.
pub record HasTokens (text : List ℕ) (tokens : List Token) (lexemes : List Lexeme) : Type 0 where
  pub utf8 : IsUtf8 text
  pub list : Tokenizes (chars text) (Ok tokens)
  pub slices : AreLexemes (chars text) tokens lexemes

-- The text has tokens, of which none is a word that the profile leaves out; they open at most 100 brackets at once, and the grammar has this
-- tree for them.
pub record HasTree {Tree : Type 0} (Derives : List Lexeme → Tree → Type 0) (text : List ℕ) (tree : Tree) : Type 0 where
  pub tokens : List Token
  pub lexemes : List Lexeme
  pub list : HasTokens text tokens lexemes
  pub inside : AreInside (chars text) tokens
  pub shallow : ¬ (IsTooDeep lexemes)
  pub reads : Derives lexemes tree

-- it is the line of the lexeme of this number, or of the end
abbrev pub IsLineAt : List ℕ → (Lexemes → ℕ) → ℕ → Type 0
IsLineAt text number line =
    (tokens : List Token) × (lexemes : Lexemes) × HasTokens text tokens lexemes × (line ≡ line_of text (start_of text tokens (number lexemes)))

-- Why a text is read in no language of SPARQL, and the line of the place that shows it.
abbrev pub StopsEarly : List ℕ → SyntaxFaultKind → ℕ → Type 0
-- a byte belongs to no character
StopsEarly text fault.NotUtf8 line = ¬ (IsUtf8 text) × ((place : ℕ) × IsValidUpTo text place × (line ≡ line_of text place))
-- no token begins somewhere
StopsEarly text fault.Token line = IsUtf8 text × ((place : ℕ) × Tokenizes (chars text) (Err place) × (line ≡ line_of text place))
-- a token is a word that the profile leaves out
StopsEarly text fault.NotInProfile line =
    (tokens : List Token) × (lexemes : List Lexeme) × (word : Token) × (place : ℕ) × HasTokens text tokens lexemes
    × IsFirstOutside (chars text) tokens place × (slice_get tokens place ≡ Some word) × (line ≡ line_of text word.start)
-- a bracket is open inside 100 others
StopsEarly text fault.TooDeep line =
    (tokens : List Token) × (lexemes : List Lexeme) × (opener : Token) × (place : ℕ) × HasTokens text tokens lexemes
    × AreInside (chars text) tokens × IsTooDeepAt lexemes place × (slice_get tokens place ≡ Some opener)
    × (line ≡ line_of text opener.start)
StopsEarly text _ line = ⊥

-- A fault that a reader answers before it asks the grammar, by its kind: one of these, or want of memory, which tells nothing of the text.
abbrev pub TellsEarly : List ℕ → SyntaxFault → SyntaxFaultKind → Type 0
TellsEarly text f (fault.NoMemory refused) = f.line ≡ 0
TellsEarly text f kind = StopsEarly text f.kind f.line

module _ {Tree Said : Type 0} (Derives : List Lexeme → Tree → Type 0) (meaning : Option (List ℕ) → Tree → Result Said SyntaxFaultKind) where
  -- Against the base, the text says this.
  abbrev pub IsSaid : Option (List ℕ) → List ℕ → Said → Type 0
  IsSaid base text said = (tree : Tree) × HasTree Derives text tree × (meaning base tree ≡ Ok said)

  -- The text has a tree, and for this reason says nothing.
  abbrev pub IsRefused : Option (List ℕ) → List ℕ → SyntaxFaultKind → Type 0
  IsRefused base text kind = (tree : Tree) × HasTree Derives text tree × (meaning base tree ≡ Err kind)

  -- Why a text says nothing, and the line of the place that shows it. The first reason that applies is the fault, and of one reason the first
  -- place.
  abbrev pub FaultIs : Option (List ℕ) → List ℕ → SyntaxFaultKind → ℕ → Type 0
  -- the grammar has no tree for the tokens; the line is that of one of them, or of the end
  FaultIs base text fault.Syntax line =
      (tokens : List Token) × (lexemes : List Lexeme) × HasTokens text tokens lexemes × AreInside (chars text) tokens
      × ¬ (IsTooDeep lexemes) × ((tree : Tree) → ¬ (Derives lexemes tree))
      × ((number : ℕ) × (line ≡ line_of text (start_of text tokens number)))
  -- a prefix is used before it is declared, in the line of the first name with such a prefix
  FaultIs base text fault.UnknownPrefix line = IsRefused base text fault.UnknownPrefix × IsLineAt text first_unbound line
  -- a reference without a base, in the line of the first
  FaultIs base text fault.Relative line = IsRefused base text fault.Relative × IsLineAt text (first_lacking (is_some base)) line
  -- a static rule is broken, in the line of the first lexeme that breaks it
  FaultIs base text fault.BlankInDelete line = IsRefused base text fault.BlankInDelete × IsLineAt text (first_broken fault.BlankInDelete) line
  FaultIs base text fault.VariableInData line = IsRefused base text fault.VariableInData × IsLineAt text (first_broken fault.VariableInData) line
  FaultIs base text fault.LiteralSubject line = IsRefused base text fault.LiteralSubject × IsLineAt text (first_broken fault.LiteralSubject) line
  FaultIs base text fault.BlankReused line = IsRefused base text fault.BlankReused × IsLineAt text (first_broken fault.BlankReused) line
  -- the text is read in no language
  FaultIs base text kind line = StopsEarly text kind line

  abbrev pub IsFaulty : Option (List ℕ) → List ℕ → SyntaxFault → Type 0
  IsFaulty base text f = FaultIs base text f.kind f.line

  -- A fault that a reader answers, by its kind: the text's, or want of memory, which tells nothing of the text.
  abbrev pub TellsFault : Option (List ℕ) → List ℕ → SyntaxFault → SyntaxFaultKind → Type 0
  TellsFault base text f (fault.NoMemory refused) = f.line ≡ 0
  TellsFault base text f kind = IsFaulty base text f
