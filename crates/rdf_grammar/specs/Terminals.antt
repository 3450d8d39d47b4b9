-- Terminals: what the next lexeme is.
use Rattle.std.specs.Prelude.{◌≡◌, ℕ, Bool, true, false, if◌then◌else◌, List, [], ◌∷◌, Option, Some, None, option_to_list}
use Rattle.rdf_grammar.specs.declared.lexeme.Lexeme.{Lexeme}
use Rattle.rdf_grammar.specs.Readings.{Reading, Test, next, one, optional, repeat}
use Rattle.rdf_grammar.specs.Steps.{◌>>=◌, ◌>>◌, ◌<$>◌, pure}

-- the characters of a slice of the text
abbrev pub Slice : Type 0
Slice = List ℕ

abbrev pub Lexemes : Type 0 → Type 0
Lexemes T = List (Lexeme T)

-- The test tells whether two terminals are the same.
pub record TellsApart {T : Type 0} (same : T → T → Bool) : Type 0 where
  pub alike : (k : T) → same k k ≡ true
  pub is : (a b : T) → same a b ≡ true → a ≡ b

-- the next lexeme's terminal
abbrev pub next_terminal : {T : Type 0} → Lexemes T → Option T
next_terminal [] = None
next_terminal (t ∷ ts) = Some t.terminal

-- the next lexeme's characters
abbrev pub next_text : {T : Type 0} → Lexemes T → Slice
next_text [] = []
next_text (t ∷ ts) = t.text

-- a look at the next lexeme's terminal
abbrev pub peek : {T : Type 0} → Reading (Lexeme T) (Option T)
peek = λ ts. Some (next_terminal ts, ts)

module _ {T : Type 0} (same : T → T → Bool) where
  -- whether a lexeme of this terminal comes next
  abbrev pub sees : T → Lexemes T → Bool
  sees k [] = false
  sees k (t ∷ ts) = same t.terminal k

  -- a lexeme of this terminal
  unfoldable pub the : T → Reading (Lexeme T) (Unit {0})
  the k = λ ts. if sees k ts then Some (tt, next ts) else None

  -- a lexeme of this terminal, and its characters
  unfoldable pub value : T → Reading (Lexeme T) Slice
  value k = λ ts. if sees k ts then Some (next_text ts, next ts) else None

  -- ( k p )*
  abbrev pub each_behind : {A : Type 0} → T → Reading (Lexeme T) A → Reading (Lexeme T) (List A)
  each_behind k p = repeat (sees k) (one (the k >> p))

  -- p ( k p )*
  abbrev pub separated : {A : Type 0} → T → Reading (Lexeme T) A → Reading (Lexeme T) (List A)
  separated k p = do
    first ← p
    others ← each_behind k p
    pure (first ∷ others)

  -- k ( p )?, where the p is there if the next lexemes pass the test
  abbrev pub maybe_behind : {A : Type 0} → T → Test (Lexeme T) → Reading (Lexeme T) A → Reading (Lexeme T) (List A)
  maybe_behind k test p = the k >> (option_to_list <$> optional test p)

  -- p ( k ( p )? )*
  abbrev pub separated_loosely : {A : Type 0} → T → Test (Lexeme T) → Reading (Lexeme T) A → Reading (Lexeme T) (List A)
  separated_loosely k test p = do
    first ← p
    others ← repeat (sees k) (maybe_behind k test p)
    pure (first ∷ others)
