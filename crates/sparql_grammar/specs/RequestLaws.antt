-- What holds of each request and its tree.
use Rattle.std.specs.Prelude.{◌≡◌, ℕ, List, map, IsTrue}
use Rattle.std.specs.List.{list_all}
use Rattle.rdf_tokens.specs.declared.token.Token.{Token}
use Rattle.rdf_tokens.specs.Tokens.{AreTokens}
use Rattle.sparql_grammar.specs.declared.tree.Part.{Part}
use Rattle.sparql_terminals.specs.Lexemes.{Lexemes, AreLexemes}
use Rattle.sparql_grammar.specs.OperationGrammar.{IsRequest}
use Rattle.sparql_grammar.specs.Proper.{holds, proper_part}

-- no lexemes are two requests
abbrev pub OneRequest : Type 0
OneRequest = (ts : Lexemes) (one other : List Part) → IsRequest ts one → IsRequest ts other → one ≡ other

-- the parts of a text's request are proper
abbrev pub RequestsAreProper : Type 0
RequestsAreProper =
    (text from rest : List ℕ) (tokens : List Token) (ts : Lexemes) (parts : List Part)
    → AreTokens text from tokens rest → AreLexemes text tokens ts → IsRequest ts parts → IsTrue (list_all holds (map proper_part parts))
