use Rattle.rdf_lines.proofs.ApartLemmas.{told_apart, come_in_order}
use Rattle.rdf_lines.proofs.held.labels_are_told_apart.Goals as goal

pub returns-clause-apart : goal.returns-clause-apart
returns-clause-apart c = told_apart

pub returns-clause-order : goal.returns-clause-order
returns-clause-order c = come_in_order
