use Rattle.rdf_session.proofs.ForgetsLemmas.{requests_leave_the_last}
use Rattle.rdf_session.proofs.law.a_depth_forgets_the_oldest.Goals as goal

pub returns : goal.returns
returns c = requests_leave_the_last
