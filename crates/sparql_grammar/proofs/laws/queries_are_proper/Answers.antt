use Rattle.sparql_grammar.proofs.QueryProper.{queries_proper}
use Rattle.sparql_grammar.proofs.laws.queries_are_proper.Goals as goal

pub returns : goal.returns
returns c = queries_proper
