use Rattle.rdf_session.proofs.OneQueryLemmas as queries
use Rattle.rdf_session.proofs.OneReplyLemmas.{one_reply}
use Rattle.rdf_session.proofs.OneResultLemmas as result
use Rattle.rdf_session.proofs.law.one_reply.Goals as goal

pub returns-clause-commands : goal.returns-clause-commands
returns-clause-commands c = one_reply c.readers_keep_laws.ensures

pub returns-clause-queries : goal.returns-clause-queries
returns-clause-queries c =
    queries.one_query_reply (record {
      query = c.one_query.ensures.query;
      never_both = c.one_query.ensures.never_both;
      fault = c.one_query.ensures.fault;
      selection = c.one_selection.ensures.one;
      answer = c.one_answer.ensures.one;
    })

pub returns-clause-there : goal.returns-clause-there
returns-clause-there c = let laws = c.readers_keep_laws.ensures in result.some_result laws.text laws.some_document laws.some_request

pub returns-clause-result : goal.returns-clause-result
returns-clause-result c = result.one_result c.readers_keep_laws.ensures

pub returns-clause-never_both : goal.returns-clause-never_both
returns-clause-never_both c = result.result_or_refusal c.readers_keep_laws.ensures
