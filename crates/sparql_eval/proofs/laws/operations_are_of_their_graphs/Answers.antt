use Rattle.sparql_eval.proofs.GraphLawLemmas.{graphs_left, graphs_meant, graphs_wanted, patterns_looked_for}
use Rattle.sparql_eval.proofs.laws.operations_are_of_their_graphs.Goals as goal

pub returns-clause-meant : goal.returns-clause-meant
returns-clause-meant c = graphs_meant

pub returns-clause-left : goal.returns-clause-left
returns-clause-left c = graphs_left

pub returns-clause-wanted : goal.returns-clause-wanted
returns-clause-wanted c = graphs_wanted

pub returns-clause-patterns : goal.returns-clause-patterns
returns-clause-patterns c = patterns_looked_for
