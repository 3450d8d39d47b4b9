use Rattle.rdf_session.proofs.law.readers_keep_laws.Goals as goal

pub returns : goal.returns
returns c = record {
  text = c.each_text_is_one_document.ensures;
  some_document = c.one_meaning.ensures.there;
  document = c.one_meaning.ensures.document;
  never_both = c.one_meaning.ensures.never_both;
  fault = c.one_meaning.ensures.fault;
  some_request = c.one_request.ensures.there;
  request = c.one_request.ensures.request;
  request_or_fault = c.one_request.ensures.never_both;
  request_fault = c.one_request.ensures.fault;
}
