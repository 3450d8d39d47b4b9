use Rattle.rdf_turtle.proofs.BaseDocuments.{relative_lacks_a_base}
use Rattle.rdf_turtle.proofs.DocumentCases.{some_meaning}
use Rattle.rdf_turtle.proofs.DocumentLemmas.{one_document, never_both, one_fault}
use Rattle.rdf_turtle.proofs.document.one_meaning.Goals as goal

pub returns-clause-there : goal.returns-clause-there
returns-clause-there c = some_meaning

pub returns-clause-document : goal.returns-clause-document
returns-clause-document c = one_document

pub returns-clause-never_both : goal.returns-clause-never_both
returns-clause-never_both c = never_both

pub returns-clause-fault : goal.returns-clause-fault
returns-clause-fault c = one_fault

pub returns-clause-relative : goal.returns-clause-relative
returns-clause-relative c = relative_lacks_a_base
