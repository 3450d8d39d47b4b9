use Rattle.sparql_algebra.proofs.VariableLemmas.{named_in_order, named_are_all}
use Rattle.sparql_algebra.proofs.ShownLemmas.{visible_are_bound, shown_counts_same, nothing_left_out, triples_bind_their_own}
use Rattle.sparql_algebra.proofs.laws.variables_of_minus.Goals as goal

pub returns-clause-order : goal.returns-clause-order
returns-clause-order c = named_in_order

pub returns-clause-all : goal.returns-clause-all
returns-clause-all c = named_are_all

pub returns-clause-bound : goal.returns-clause-bound
returns-clause-bound c = visible_are_bound

pub returns-clause-counts : goal.returns-clause-counts
returns-clause-counts c = shown_counts_same

pub returns-clause-same : goal.returns-clause-same
returns-clause-same c = nothing_left_out

pub returns-clause-triples : goal.returns-clause-triples
returns-clause-triples c = triples_bind_their_own
