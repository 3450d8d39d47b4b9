-- Why a text has no token list.
use Rattle.std.specs.Prelude.{ℕ, List, codes, Err}
use Rattle.rdf_tokens.specs.declared.fault.TokenFault.{TokenFault}
use Rattle.rdf_tokens.specs.declared.fault.TokenFault.TheVariants.{NoToken, NoMemory}
use Rattle.rdf_tokens.specs.Tokens.{Tokenizes}

-- the printed words
abbrev pub fault_name : TokenFault → List ℕ
fault_name (NoToken place) = codes "Token"
fault_name (NoMemory why) = codes "NoMemory"

-- The place is the first where no token begins; want of memory tells nothing of the text.
abbrev pub TellsFault : List ℕ → TokenFault → Type 0
TellsFault text (NoToken place) = Tokenizes text (Err place)
TellsFault text (NoMemory why) = Unit {0}
