use Rattle.sparql_queries.proofs.GroupLawLemmas.{templates_stand}
use Rattle.sparql_queries.proofs.laws.templates_stand_in_their_graph.Goals as goal

pub returns : goal.returns
returns c = templates_stand
