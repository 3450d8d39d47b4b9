use Rattle.sparql_values.proofs.MappingLemmas.{compatible_laws, merge_laws, same_is_one, single_binds}
use Rattle.sparql_values.proofs.laws.mappings_are_merged.Goals as goal

pub returns : goal.returns
returns c = record { same = same_is_one; compatible = compatible_laws; merge = merge_laws; single = single_binds }
