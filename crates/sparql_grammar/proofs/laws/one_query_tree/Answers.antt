use Rattle.sparql_grammar.proofs.QueryWhole.{query_unique}
use Rattle.sparql_grammar.proofs.laws.one_query_tree.Goals as goal

pub returns : goal.returns
returns c = query_unique
