-- The token list of a text.
use Rattle.std.specs.Prelude.{◌≡◌, ◌≢◌, ◌≤◌, ◌⊎◌, ℕ, true, false, List, [], ◌∷◌, ◌++◌, length, Result, Ok, Err}
use Rattle.std.specs.List.{AllByRecursion}
use Rattle.rdf_terms.specs.Reading.{byte_count}
use Rattle.rdf_tokens.specs.declared.token.Kind.{Kind}
use Rattle.rdf_tokens.specs.declared.token.Token.{Token}
use Rattle.rdf_terms.specs.LineEnds.{is_line_end}
use Rattle.rdf_tokens.specs.Characters.{is_white}
use Rattle.rdf_tokens.specs.Forms.{HasForm}

-- ---- one token

-- The token at the front of `text` has that kind, and `after` follows it: no longer front has any form (SPARQL 1.1 Query, section 19.8: the longest match).
pub record IsToken (text : List ℕ) (kind : Kind) (after : List ℕ) : Type 0 where
  pub slice : List ℕ
  pub form : HasForm kind slice
  pub parts : text ≡ slice ++ after
  pub longest : (other : Kind) (longer rest : List ℕ) → HasForm other longer → text ≡ longer ++ rest → length longer ≤ length slice

-- ---- between tokens (Turtle 1.1, sections 6.1 and 6.2)

-- `#`, and characters up to the end of the line
abbrev pub IsComment : List ℕ → Type 0
IsComment [] = ⊥
IsComment (c ∷ cs) = (c ≡ 35) × AllByRecursion (λ d. is_line_end d ≡ false) cs

-- white space, or a comment and its line end
abbrev pub IsBlank : List ℕ → Type 0
IsBlank slice =
    ((c : ℕ) × (slice ≡ c ∷ []) × (is_white c ≡ true))
    ⊎ ((comment : List ℕ) × (end : ℕ) × (slice ≡ comment ++ end ∷ []) × IsComment comment × (is_line_end end ≡ true))

-- white space and comments, as many as one likes
abbrev pub Gap : List (List ℕ) → List ℕ → List ℕ → Type 0
Gap [] text start = text ≡ start
Gap (blank ∷ others) text start = (rest : List ℕ) × (text ≡ blank ++ rest) × IsBlank blank × Gap others rest start

abbrev pub HasGap : List ℕ → List ℕ → Type 0
HasGap text start = (blanks : List (List ℕ)) × Gap blanks text start

-- nothing but a gap, and perhaps a last comment without a line end
abbrev pub Ends : List ℕ → Type 0
Ends text = (last : List ℕ) × HasGap text last × ((last ≡ []) ⊎ IsComment last)

-- ---- the list

-- `rest` begins at that byte of the text.
abbrev pub At : List ℕ → ℕ → List ℕ → Type 0
At text place rest = (before : List ℕ) × (text ≡ before ++ rest) × (place ≡ byte_count before)

-- The slice stands in the text from that byte up to that byte.
abbrev pub Stands : List ℕ → ℕ → ℕ → List ℕ → Type 0
Stands text start stop slice =
    (before after : List ℕ) × (text ≡ before ++ (slice ++ after)) × (start ≡ byte_count before) × (stop ≡ byte_count (before ++ slice))

-- From `from` on, the text is these tokens with gaps before them, up to `rest`.
abbrev pub AreTokens : List ℕ → List ℕ → List Token → List ℕ → Type 0
AreTokens text from [] rest = from ≡ rest
AreTokens text from (token ∷ tokens) rest =
    (start after : List ℕ) × HasGap from start × IsToken start token.kind after
    × At text token.start start × At text token.stop after × AreTokens text after tokens rest

-- Neither the end nor white space nor a comment, and no front has a form.
abbrev pub NoToken : List ℕ → Type 0
NoToken [] = ⊥
NoToken (c ∷ cs) =
    (is_white c ≡ false) × (c ≢ 35) × ((kind : Kind) (slice rest : List ℕ) → HasForm kind slice → ¬ ((c ∷ cs) ≡ slice ++ rest))

-- What a text says: its token list, or the first place where no token begins.
abbrev pub Tokenizes : List ℕ → Result (List Token) ℕ → Type 0
Tokenizes text (Ok tokens) = (rest : List ℕ) × AreTokens text text tokens rest × Ends rest
Tokenizes text (Err place) = (tokens : List Token) × (rest start : List ℕ) × AreTokens text text tokens rest × HasGap rest start × NoToken start × At text place start

-- ---- laws

-- a text has one token list at most, or one place where there is none
abbrev pub HasOneTokenList : Type 0
HasOneTokenList = (text : List ℕ) (a b : Result (List Token) ℕ) → Tokenizes text a → Tokenizes text b → a ≡ b

-- each text has a token list, or a place where no token begins
abbrev pub HasSomeTokenList : Type 0
HasSomeTokenList = (text : List ℕ) → (answer : Result (List Token) ℕ) × Tokenizes text answer

-- the slice of a token has the form of its kind
abbrev pub HasItsForm : List ℕ → Token → Type 0
HasItsForm text token =
    (before slice after : List ℕ) × (text ≡ before ++ (slice ++ after)) × (token.start ≡ byte_count before)
    × (token.stop ≡ byte_count (before ++ slice)) × HasForm token.kind slice

abbrev pub TokensHaveForms : Type 0
TokensHaveForms = (text : List ℕ) (tokens : List Token) → Tokenizes text (Ok tokens) → AllByRecursion (HasItsForm text) tokens
