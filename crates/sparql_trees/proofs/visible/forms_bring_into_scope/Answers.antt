use Rattle.sparql_trees.proofs.InScopeLemmas.{minus_names, minus_shows_none, named_table, visible_table}
use Rattle.sparql_trees.proofs.visible.forms_bring_into_scope.Goals as goal

pub returns-clause-visible : goal.returns-clause-visible
returns-clause-visible c = visible_table

pub returns-clause-named : goal.returns-clause-named
returns-clause-named c = named_table

pub returns-clause-minus : goal.returns-clause-minus
returns-clause-minus c = minus_shows_none

pub returns-clause-named_in_minus : goal.returns-clause-named_in_minus
returns-clause-named_in_minus c = minus_names
