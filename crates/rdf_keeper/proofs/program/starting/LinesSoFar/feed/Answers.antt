use Rattle.std.proofs.Common.{sym, subst}
use Rattle.rdf_keeper.specs.Inside.Starting.{GoesOn}
use Rattle.rdf_keeper.specs.declared.program.starting.LinesSoFar.{LinesSoFar}
use Rattle.rdf_keeper.specs.declared.program.starting.LinesSoFar.TheVariants.{Faulty}
use Rattle.rdf_keeper.proofs.StartingLemmas.{stays_faulty, turns_faulty}
use Rattle.rdf_keeper.proofs.program.starting.LinesSoFar.feed.Goals as goal

pub returns-in_default : goal.returns-in_default
returns-in_default c =
    let piece = c.args.piece.now in
    let outcome = c.refused.result in
    subst (λ (s : LinesSoFar). GoesOn s piece (Faulty outcome)) (sym c.in-Sound.is) (turns_faulty c.in-Sound.start piece c.in-Err.fault outcome c.refused.ensures c.in-Err.ensures)

pub returns-in-Faulty : goal.returns-in-Faulty
returns-in-Faulty c =
    subst (λ (s : LinesSoFar). GoesOn s c.args.piece.now (Faulty c.in-Faulty.outcome)) (sym c.in-Faulty.is) (stays_faulty c.in-Faulty.outcome c.args.piece.now)
