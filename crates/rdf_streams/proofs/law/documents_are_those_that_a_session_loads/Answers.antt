use Rattle.rdf_streams.proofs.DocumentLemmas.{checks_find_the_fault, conversions_find_the_fault, converts_what_is_loaded, counts_what_is_loaded}
use Rattle.rdf_streams.proofs.law.documents_are_those_that_a_session_loads.Goals as goal

pub returns-clause-converted : goal.returns-clause-converted
returns-clause-converted c = converts_what_is_loaded

pub returns-clause-counted : goal.returns-clause-counted
returns-clause-counted c = counts_what_is_loaded

pub returns-clause-unconverted : goal.returns-clause-unconverted
returns-clause-unconverted c = conversions_find_the_fault

pub returns-clause-uncounted : goal.returns-clause-uncounted
returns-clause-uncounted c = checks_find_the_fault
