use Rattle.rdf_grammar.proofs.MeaningLemmas.{base_table}
use Rattle.rdf_grammar.proofs.laws.bases_are_moved.Goals as goal

pub returns : goal.returns
returns c = base_table
