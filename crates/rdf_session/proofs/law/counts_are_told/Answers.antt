use Rattle.rdf_session.proofs.CountLemmas as counts
use Rattle.rdf_session.proofs.law.counts_are_told.Goals as goal

pub returns : goal.returns
returns c = counts.counts_are_told c.changes_are_exact.ensures.nets
