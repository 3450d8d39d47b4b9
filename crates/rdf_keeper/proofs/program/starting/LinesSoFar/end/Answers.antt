use Rattle.std.proofs.Common.{subst}
use Rattle.rdf_keeper.specs.Inside.Starting.{IsSoFar}
use Rattle.rdf_keeper.proofs.StartingLemmas.{ends_faulty, ends_refused, ends_sound}
use Rattle.rdf_keeper.proofs.program.starting.LinesSoFar.end.Goals as goal

pub returns-in-Ok : goal.returns-in-Ok
returns-in-Ok c format base text h = ends_sound c.in-Sound.start format base text (subst (IsSoFar format base text) c.in-Sound.is h) c.in-Ok.keeper c.in-Ok.ensures

pub returns-in-Err : goal.returns-in-Err
returns-in-Err c format base text h = ends_refused c.in-Sound.start format base text (subst (IsSoFar format base text) c.in-Sound.is h) c.in-Err.fault c.refused.result c.refused.ensures c.in-Err.ensures

pub returns-in-Faulty : goal.returns-in-Faulty
returns-in-Faulty c format base text h = ends_faulty c.in-Faulty.outcome format base text (subst (IsSoFar format base text) c.in-Faulty.is h)
