use Rattle.rdf_grammar.proofs.NumberingLemmas.{one_label_is_one_node}
use Rattle.rdf_grammar.proofs.laws.one_label_is_one_node.Goals as goal

pub returns : goal.returns
returns c = one_label_is_one_node
