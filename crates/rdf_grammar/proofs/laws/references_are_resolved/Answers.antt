use Rattle.rdf_grammar.proofs.ScopeReferences as lemma
use Rattle.rdf_grammar.proofs.laws.references_are_resolved.Goals as goal

pub returns : goal.returns
returns c = lemma.references_are_resolved
