use Rattle.rdf_grammar.proofs.ScopePrefixes as lemma
use Rattle.rdf_grammar.proofs.laws.prefixes_are_replaced.Goals as goal

pub returns : goal.returns
returns c = lemma.prefixes_are_replaced
