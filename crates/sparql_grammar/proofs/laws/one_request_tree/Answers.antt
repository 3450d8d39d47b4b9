use Rattle.sparql_grammar.proofs.OperationWhole.{request_unique}
use Rattle.sparql_grammar.proofs.laws.one_request_tree.Goals as goal

pub returns : goal.returns
returns c = request_unique
