-- How many brackets are open.
use Rattle.std.specs.Prelude.{◌≡◌, ℕ, ◌+◌, ◌-◌, ◌<◌, ◌≤◌, [], ◌∷◌, length, take}
use Rattle.rdf_grammar.specs.declared.bracket.Bracket.{Bracket}
use Rattle.rdf_grammar.specs.declared.bracket.Bracket.TheVariants.{Opens, Closes, Neither}
use Rattle.rdf_grammar.specs.Terminals.{Lexemes}

-- how many may be open at once
abbrev pub max_open : ℕ
max_open = 100

-- one more behind an opener, one less behind a closer, and not below 0
abbrev pub behind_bracket : ℕ → Bracket → ℕ
behind_bracket n Opens = n + 1
behind_bracket n Closes = n - 1
behind_bracket n Neither = n

-- bracket tells which terminals open or close one
module _ {T : Type 0} (bracket : T → Bracket) where
  abbrev pub open_behind : ℕ → T → ℕ
  open_behind n k = behind_bracket n (bracket k)

  -- the brackets that are open behind these lexemes, where n were open before
  abbrev pub open_after : ℕ → Lexemes T → ℕ
  open_after n [] = n
  open_after n (t ∷ ts) = open_after (open_behind n t.terminal) ts

  -- behind some of the lexemes more are open than may be
  abbrev pub IsTooDeep : Lexemes T → Type 0
  IsTooDeep ts = (n : ℕ) × (max_open < open_after 0 (take n ts))

  -- the lexeme at this place is the first behind which more are open than may be
  pub record IsTooDeepAt (ts : Lexemes T) (place : ℕ) : Type 0 where
    pub within : place < length ts
    pub over : open_after 0 (take (place + 1) ts) ≡ max_open + 1
    pub first : (n : ℕ) → n ≤ place → open_after 0 (take n ts) ≤ max_open
