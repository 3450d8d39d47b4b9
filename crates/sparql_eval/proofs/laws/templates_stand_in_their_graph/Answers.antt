use Rattle.sparql_eval.proofs.TemplateLawLemmas.{graph_table, instances_are_of_their_template}
use Rattle.sparql_eval.proofs.laws.templates_stand_in_their_graph.Goals as goal

pub returns-clause-graphs : goal.returns-clause-graphs
returns-clause-graphs c = graph_table

pub returns-clause-instances : goal.returns-clause-instances
returns-clause-instances c = instances_are_of_their_template
