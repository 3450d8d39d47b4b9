-- Walking over tokens from left to right, each read when it is asked for.
use Rattle.std.specs.Prelude.{ℕ, ◌-◌, List}
use Rattle.rdf_terms.specs.Reading.{between, byte_count}
use Rattle.rdf_tokens.specs.declared.walk.Found.{Found}
use Rattle.rdf_tokens.specs.declared.walk.Found.TheVariants as found
use Rattle.rdf_tokens.specs.Inside.EachToken.{of_each}

-- of a text of so many bytes
module _ (size : ℕ) where
  -- the byte where these last characters begin
  abbrev pub byte_of : List ℕ → ℕ
  byte_of start = size - byte_count start

  unfoldable pub found_of : List ℕ → List Found
  found_of = of_each (λ kind start after. found.Token (byte_of start) kind (between start after)) (λ start. found.NoToken (byte_of start))
