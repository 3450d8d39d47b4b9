-- Places where a token may begin.
use Rattle.std.specs.Prelude.{◌≡◌, ◌≤◌, ℕ, true, List}
use lib.Utf8.{scalars}
use Rattle.rdf_terms.specs.Reading.{byte_count}
use Rattle.rdf_tokens.specs.Sizes.{longest}
use Rattle.rdf_tokens.specs.Inside.TokenReading.{NoPnameBefore}

-- characters of Unicode follow, among which no prefixed name begins before so many bytes are left
pub record IsBetweenTokens (rest : List ℕ) (nameless : ℕ) : Type 0 where
  pub scalar : scalars rest ≡ true
  pub names : NoPnameBefore rest nameless
  pub fits : byte_count rest ≤ longest
