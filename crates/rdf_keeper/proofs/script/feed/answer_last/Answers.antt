use Rattle.std.proofs.Common.{◌∷◌, [], ◌∙◌, sym, ap, subst}
use Rattle.std.specs.List.{concat}
use Rattle.rdf_keeper.specs.Inside.Asks.{asked_of}
use Rattle.rdf_streams.specs.Streams.{Writes}
use Rattle.rdf_keeper.specs.Inside.WriteFaults.{is_write_fault}
use Rattle.rdf_keeper.proofs.ScriptLemmas.Runs.{no_write_fault}
use Rattle.rdf_keeper.proofs.ScriptLemmas.Feeds.{last_missed, last_reached}
use Rattle.rdf_keeper.proofs.script.feed.answer_last.Goals as goal

pub returns-in-Ok : goal.returns-in-Ok
returns-in-Ok g c =
    let a = c.in-Ok.ensures in
    let kept = ap is_write_fault c.ending.ensures ∙ no_write_fault c.in-Ok.refused in (
      a.0,
      subst (λ failed. Writes g.D.Device.step c.args.device.now failed (concat a.0) c.answer.new.device) (sym kept) a.1,
      last_reached c.args.stop c.args.refused (asked_of c.args.command ∷ []) c.args.keeper.now c.answer.new.keeper a.0 c.in-Ok.refused _ c.ending.ensures a.2,
    )

pub returns-in-Err : goal.returns-in-Err
returns-in-Err g c =
    let a = c.in-Err.ensures in
    (a.0, a.1, last_missed c.args.stop c.args.refused (asked_of c.args.command ∷ []) c.args.keeper.now c.answer.new.keeper a.0 c.in-Err.status a.2)
