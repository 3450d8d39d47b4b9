use Rattle.rdf_dataset.proofs.ChangeLawLemmas as lemma
use Rattle.rdf_dataset.proofs.law.look_ups_match.Goals as goal

pub returns : goal.returns
returns c = lemma.look_ups_match
