use Rattle.rdf_keeper.proofs.ScriptLemmas.Printed.{lines_are_documents, sorted_texts_are_documents, printed_lines_are_documents}
use Rattle.rdf_keeper.proofs.law.printed_lines_are_documents.Goals as goal

pub returns-clause-lines : goal.returns-clause-lines
returns-clause-lines c = lines_are_documents

pub returns-clause-sorted : goal.returns-clause-sorted
returns-clause-sorted c = sorted_texts_are_documents

pub returns-clause-printed : goal.returns-clause-printed
returns-clause-printed c = printed_lines_are_documents
