-- Why lexemes are not read.
use Rattle.std.specs.Prelude.{List}
use Rattle.rdf_grammar.specs.declared.fault.GrammarFault.{GrammarFault}
use Rattle.rdf_grammar.specs.declared.fault.GrammarFault.TheVariants.{Syntax, NoMemory}
use Rattle.sparql_terminals.specs.Lexemes.{Lexemes}
use Rattle.sparql_grammar.specs.Nesting.{IsTooDeep}
use Rattle.sparql_grammar.specs.OperationGrammar.{IsRequest}
use Rattle.sparql_grammar.specs.QueryGrammar.{IsQuery}
use Rattle.sparql_grammar.specs.declared.tree.Part.{Part}
use Rattle.sparql_grammar.specs.declared.tree.Query.{Query}

-- what a fault of the parser says of the lexemes, where they should be a request: they are none, if brackets don't nest too deep
abbrev pub Explains : Lexemes → GrammarFault → Type 0
Explains ts Syntax = ¬ (IsTooDeep ts) → (parts : List Part) → ¬ (IsRequest ts parts)
Explains ts (NoMemory refusal) = Unit {0}

-- and where they should be a query
abbrev pub ExplainsQuery : Lexemes → GrammarFault → Type 0
ExplainsQuery ts Syntax = ¬ (IsTooDeep ts) → (query : Query) → ¬ (IsQuery ts query)
ExplainsQuery ts (NoMemory refusal) = Unit {0}
