use Rattle.sparql_grammar.proofs.OperationWhole.{answer_found, answer_only, answer_explained}
use Rattle.sparql_grammar.proofs.update.parse_update.Goals as goal

pub returns-clause-found : goal.returns-clause-found
returns-clause-found c = answer_found _ _ c.request.result c.request.ensures.reads c.request.ensures.all

pub returns-clause-only : goal.returns-clause-only
returns-clause-only c = answer_only _ _ c.request.result c.request.ensures.reads c.request.ensures.all

pub returns-clause-fault : goal.returns-clause-fault
returns-clause-fault c = answer_explained _ _ c.request.result c.request.ensures.reads
