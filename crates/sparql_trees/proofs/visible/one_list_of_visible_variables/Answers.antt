use Rattle.sparql_trees.proofs.VisibleOrder.{named_are_sorted, one_visible, visible_are_sorted}
use Rattle.sparql_trees.proofs.visible.one_list_of_visible_variables.Goals as goal

pub returns-clause-sorted : goal.returns-clause-sorted
returns-clause-sorted c = visible_are_sorted

pub returns-clause-one : goal.returns-clause-one
returns-clause-one c = one_visible

pub returns-clause-named : goal.returns-clause-named
returns-clause-named c = named_are_sorted
