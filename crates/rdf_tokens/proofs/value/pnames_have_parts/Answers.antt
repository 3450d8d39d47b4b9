use Rattle.rdf_tokens.proofs.ValueNames.{prefix_part_is, local_part_is}
use Rattle.rdf_tokens.proofs.value.pnames_have_parts.Goals as goal

pub returns-clause-prefix : goal.returns-clause-prefix
returns-clause-prefix c = prefix_part_is

pub returns-clause-local : goal.returns-clause-local
returns-clause-local c = local_part_is
