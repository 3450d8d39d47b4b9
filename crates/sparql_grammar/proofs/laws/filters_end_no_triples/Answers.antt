use Rattle.sparql_grammar.proofs.GroupElements.{triples_together, patterns_divide, filters_apart}
use Rattle.sparql_grammar.proofs.laws.filters_end_no_triples.Goals as goal

pub returns-clause-together : goal.returns-clause-together
returns-clause-together c = triples_together

pub returns-clause-divided : goal.returns-clause-divided
returns-clause-divided c = patterns_divide

pub returns-clause-apart : goal.returns-clause-apart
returns-clause-apart c = filters_apart
