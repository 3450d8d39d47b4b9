-- The first of a list of tokens.
use Rattle.std.proofs.Common.{◌<◌, List, [], ◌∷◌, length, ℕ, arith, slice_index_or}
use Rattle.std.specs.List.{AllByRecursion}
use Rattle.rdf_tokens.specs.declared.token.Token.{Token}
use Rattle.rdf_tokens.specs.Tokens.{HasItsForm}

pub first_has : (text : List ℕ) (list : List Token) (other : Token) → AllByRecursion (HasItsForm text) list → 0 < length list → HasItsForm text (slice_index_or list 0 other)
first_has text [] other all some = absurd (omega (arith, some))
first_has text (t ∷ ts) other all some = all.0
