use Rattle.std.proofs.Common.{arith}
use Rattle.rdf_session.proofs.ListedLemmas.{first_taken}
use Rattle.rdf_session.proofs.places.pop_before.Goals as goal

pub returns-clause-some : goal.returns-clause-some
returns-clause-some c = first_taken c.pop_first.result _ _ c.in_ok-first.field-0.now c.args.place (omega arith) c.in_ok-first.ensures.member c.pop_first.ensures.member c.pop_first.ensures.least c.pop_first.ensures.updates c.pop_first.ensures.len
