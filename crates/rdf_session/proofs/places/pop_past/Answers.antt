use Rattle.std.proofs.Common.{arith}
use Rattle.rdf_session.proofs.ListedLemmas.{last_taken}
use Rattle.rdf_session.proofs.places.pop_past.Goals as goal

pub returns-clause-some : goal.returns-clause-some
returns-clause-some c = last_taken c.pop_last.result _ _ c.in_ok-last.field-0.now c.args.place (omega arith) c.in_ok-last.ensures.member c.pop_last.ensures.member c.pop_last.ensures.greatest c.pop_last.ensures.updates c.pop_last.ensures.len
