use Rattle.sparql_drafts.proofs.AbbreviationLemmas.{base_is_moved, prefix_is_declared}
use Rattle.sparql_drafts.proofs.laws.declarations_are_in_force.Goals as goal

pub returns-clause-base : goal.returns-clause-base
returns-clause-base c = base_is_moved

pub returns-clause-prefix : goal.returns-clause-prefix
returns-clause-prefix c = prefix_is_declared
