-- What holds of each query and its tree.
use Rattle.std.specs.Prelude.{◌≡◌, ℕ, List, IsTrue}
use Rattle.rdf_tokens.specs.declared.token.Token.{Token}
use Rattle.rdf_tokens.specs.Tokens.{AreTokens}
use Rattle.sparql_grammar.specs.declared.tree.Query.{Query}
use Rattle.sparql_terminals.specs.Lexemes.{Lexemes, AreLexemes}
use Rattle.sparql_grammar.specs.QueryGrammar.{IsQuery}
use Rattle.sparql_grammar.specs.Proper.{proper_query}

-- no lexemes are two queries
abbrev pub OneQuery : Type 0
OneQuery = (ts : Lexemes) (one other : Query) → IsQuery ts one → IsQuery ts other → one ≡ other

-- a text's query is proper
abbrev pub QueriesAreProper : Type 0
QueriesAreProper =
    (text from rest : List ℕ) (tokens : List Token) (ts : Lexemes) (query : Query)
    → AreTokens text from tokens rest → AreLexemes text tokens ts → IsQuery ts query → IsTrue (proper_query query)
