-- Something of each token of a text, from left to right, each token read when it is asked for.
use Rattle.std.specs.Prelude.{ℕ, zero, suc, false, List, [], ◌∷◌, length, Option, Some, None}
use Rattle.rdf_tokens.specs.declared.token.Kind.{Kind}
use Rattle.rdf_tokens.specs.Inside.TokenReading.{skip_gap, token_at}

-- made tells it of a token, by its kind and by the characters from its start on and from its end on; missing of a place where no token begins
module _ {A : Type 0} (made : Kind → List ℕ → List ℕ → A) (missing : List ℕ → A) where
  -- that of the token that starts there, and the later ones
  abbrev pub from_token : (List ℕ → List A) → List ℕ → Option (Kind × List ℕ) → List A
  from_token later start None = missing start ∷ []
  from_token later start (Some token) = made token.0 start token.1 ∷ later token.1

  -- from behind a gap
  abbrev pub from_start : (List ℕ → List A) → List ℕ → List A
  from_start later [] = []
  from_start later (c ∷ cs) = from_token later (c ∷ cs) (token_at (c ∷ cs))

  unfoldable pub within : ℕ → List ℕ → List A
  within zero cs = []
  within (suc n) cs = from_start (within n) (skip_gap false cs)

  -- Each token takes a character, so that their number bounds the turns.
  unfoldable pub of_each : List ℕ → List A
  of_each cs = within (length cs) cs
