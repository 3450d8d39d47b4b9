use Rattle.rdf_turtle.proofs.DirectiveLemmas.{base_is_moved, prefix_is_declared, section_examples}
use Rattle.rdf_turtle.proofs.laws.directives_are_in_force.Goals as goal

pub returns-clause-base : goal.returns-clause-base
returns-clause-base c = base_is_moved

pub returns-clause-prefix : goal.returns-clause-prefix
returns-clause-prefix c = prefix_is_declared

pub returns-clause-examples : goal.returns-clause-examples
returns-clause-examples c = section_examples
