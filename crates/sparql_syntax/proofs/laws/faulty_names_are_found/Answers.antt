use Rattle.sparql_syntax.proofs.FaultyNameLemmas as lemma
use Rattle.sparql_syntax.proofs.laws.faulty_names_are_found.Goals as goal

pub returns-clause-unknown_in_updates : goal.returns-clause-unknown_in_updates
returns-clause-unknown_in_updates c = lemma.unknown_in_updates

pub returns-clause-relative_in_updates : goal.returns-clause-relative_in_updates
returns-clause-relative_in_updates c = lemma.relative_in_updates

pub returns-clause-unknown_in_queries : goal.returns-clause-unknown_in_queries
returns-clause-unknown_in_queries c = lemma.unknown_in_queries

pub returns-clause-relative_in_queries : goal.returns-clause-relative_in_queries
returns-clause-relative_in_queries c = lemma.relative_in_queries
