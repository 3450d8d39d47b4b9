use Rattle.rdf_keeper.proofs.ScriptLemmas.OneOutputOfBytes.{one_output_of_bytes, one_text_of_bytes}
use Rattle.rdf_keeper.proofs.ScriptLemmas.OneOutput.{one_output, one_text}
use Rattle.rdf_keeper.proofs.law.a_script_has_one_output.Goals as goal

pub returns-clause-answers : goal.returns-clause-answers
returns-clause-answers c = one_output c.one_reply.ensures.commands c.one_reply.ensures.queries

pub returns-clause-bytes : goal.returns-clause-bytes
returns-clause-bytes c = one_text c.one_reply.ensures.commands c.one_reply.ensures.queries

pub returns-clause-answers_of_bytes : goal.returns-clause-answers_of_bytes
returns-clause-answers_of_bytes c = one_output_of_bytes (one_output c.one_reply.ensures.commands c.one_reply.ensures.queries)

pub returns-clause-bytes_of_bytes : goal.returns-clause-bytes_of_bytes
returns-clause-bytes_of_bytes c = one_text_of_bytes (one_output c.one_reply.ensures.commands c.one_reply.ensures.queries)
