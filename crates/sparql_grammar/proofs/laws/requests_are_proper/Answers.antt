use Rattle.sparql_grammar.proofs.OperationProper.{requests_proper}
use Rattle.sparql_grammar.proofs.laws.requests_are_proper.Goals as goal

pub returns : goal.returns
returns c = requests_proper
