use Rattle.rdf_keeper.proofs.StartingLemmas.{refuses}
use Rattle.rdf_keeper.proofs.program.starting.refused.Goals as goal

pub returns-in_default : goal.returns-in_default
returns-in_default c format base text h = refuses format base text c.args.fault c.in_default.not-NoMemory h
