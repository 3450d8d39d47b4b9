use Rattle.sparql_grammar.proofs.QueryWhole.{query_answer_found, query_answer_only, query_answer_explained}
use Rattle.sparql_grammar.proofs.query.parse_query.Goals as goal

pub returns-clause-found : goal.returns-clause-found
returns-clause-found c = query_answer_found _ _ c.query.result c.query.ensures.reads c.query.ensures.all

pub returns-clause-only : goal.returns-clause-only
returns-clause-only c = query_answer_only _ _ c.query.result c.query.ensures.reads c.query.ensures.all

pub returns-clause-fault : goal.returns-clause-fault
returns-clause-fault c = query_answer_explained _ _ c.query.result c.query.ensures.reads
