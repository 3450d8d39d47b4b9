use Rattle.std.specs.FinMap as map
use Rattle.rdf_session.proofs.BehindLemmas.{marks_behind_nothing}
use Rattle.rdf_session.proofs.marks.Marks.clear.Goals as goal

pub returns : goal.returns
returns c = rw c.clear.ensures (marks_behind_nothing map.empty)
