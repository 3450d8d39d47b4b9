-- A walk over the tokens of a text.
use Rattle.std.specs.Prelude.{◌≡◌, ℕ, List, [], ◌∷◌, ◌++◌, Result, Ok, Err}
use Rattle.rdf_tokens.specs.declared.token.Token.{Token}
use Rattle.rdf_tokens.specs.declared.walk.Found.{Found}
use Rattle.rdf_tokens.specs.declared.walk.Found.TheVariants as found
use Rattle.rdf_tokens.specs.Tokens.{Stands, Tokenizes}

-- what is found is this token of the text: its start, its kind and its slice
abbrev pub IsFound : List ℕ → Token → Found → Type 0
IsFound text token (found.Token start kind slice) = (start ≡ token.start) × (kind ≡ token.kind) × Stands text token.start token.stop slice
IsFound text token (found.NoToken start) = ⊥

-- one for each token, in order
abbrev pub AreFound : List ℕ → List Token → List Found → Type 0
AreFound text [] [] = Unit {0}
AreFound text [] (f ∷ fs) = ⊥
AreFound text (token ∷ tokens) [] = ⊥
AreFound text (token ∷ tokens) (f ∷ fs) = IsFound text token f × AreFound text tokens fs

-- What a walk over a text comes to that says this: its tokens. Where the text has no token list, tokens and then the first place
-- where none begins.
abbrev pub AreFoundFrom : List ℕ → Result (List Token) ℕ → List Found → Type 0
AreFoundFrom text (Ok tokens) all = AreFound text tokens all
AreFoundFrom text (Err place) all = (tokens : List Token) × (front : List Found) × AreFound text tokens front × (all ≡ front ++ found.NoToken place ∷ [])

-- what a walk over a text comes to
abbrev pub AreFoundIn : List ℕ → List Found → Type 0
AreFoundIn text all = (answer : Result (List Token) ℕ) × Tokenizes text answer × AreFoundFrom text answer all
