-- Where a token of a text starts.
use Rattle.std.specs.Prelude.{◌≡◌, ℕ, Bool, List}
use Rattle.rdf_tokens.specs.declared.token.Token.{Token}
use Rattle.rdf_turtle.specs.declared.fault.TurtleFaultKind.{TurtleFaultKind}
use Rattle.rdf_turtle.specs.declared.fault.TurtleFaultKind.TheVariants.{UnknownPrefix, Relative}
use Rattle.rdf_turtle.specs.Document.{HasTokens, start_of}
use Rattle.rdf_turtle.specs.FaultyNames.{first_unbound, first_lacking}
use Rattle.rdf_turtle.specs.Lexemes.{Lexemes}

-- Where the text has tokens, the one of that number starts there, or the text ends there.
abbrev pub StartsAt : List ℕ → (Lexemes → ℕ) → ℕ → Type 0
StartsAt text number place = (tokens : List Token) (lexemes : Lexemes) → HasTokens text tokens lexemes → place ≡ start_of text tokens (number lexemes)

-- the first name with that fault, against a base or none, starts there
abbrev pub StartsAtFirst : Bool → List ℕ → TurtleFaultKind → ℕ → Type 0
StartsAtFirst based text UnknownPrefix place = StartsAt text first_unbound place
StartsAtFirst based text Relative place = StartsAt text (first_lacking based) place
StartsAtFirst based text kind place = Unit {0}
