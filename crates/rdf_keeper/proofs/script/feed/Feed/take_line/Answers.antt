use Rattle.std.proofs.Common.{ap, refl, inl, subst, ◌∙◌, [], List}
use Rattle.std.specs.Prelude.{Ok, Err}
use Rattle.rdf_keeper.specs.Script.Commands.{Asked}
use Rattle.rdf_keeper.specs.Script.Runs.{Answered}
use Rattle.rdf_streams.proofs.DeviceLemmas.Written.{untouched, writes_nothing}
use Rattle.rdf_keeper.proofs.ScriptLemmas.Pieces.{loads_text}
use Rattle.rdf_keeper.proofs.ScriptLemmas.Feeds.{line_ends, line_goes_on}
use Rattle.rdf_keeper.proofs.ScriptLemmas.Runs.{no_room}
use Rattle.rdf_keeper.specs.Script.Pieces.{Pending}
use Rattle.rdf_keeper.specs.declared.script.gathered.Says.TheVariants.{Asks, Inside, Loads, Nothing, Opens}
use Rattle.rdf_keeper.proofs.script.feed.Feed.take_line.Goals as goal
use Rattle.rdf_keeper.proofs.script.feed.Feed.take_line.Goals.{in-Nothing, in-Opens, in-Inside, in-Asks+in-Ok, in-Loads+in-Ok-answer}

pub returns-in-Err : goal.returns-in-Err
returns-in-Err g c = ([], writes_nothing g.D.Device.step _, λ text. no_room _ _ _ _)

pub returns-in-Err-answer : goal.returns-in-Err-answer
returns-in-Err-answer g c =
    let a = c.in-Err-answer.ensures in
    (a.0, a.1, line_ends _ _ _ c.self.invariant c.requires c.in_default.ensures.ok (Asks c.in-Asks.command) c.in-Asks.ensures.commands _ _ _ _ _ c.self.view_is a.2)

pub returns-in-Err-answer-2 : goal.returns-in-Err-answer-2
returns-in-Err-answer-2 g c =
    let a = c.in-Err-answer-2.ensures in (
      a.0,
      a.1,
      line_ends _ _ _ c.self.invariant c.requires c.in_default.ensures.ok (Loads c.in-Loads.format) c.in-Loads.ensures.commands _ c.args.keeper.now c.answer-in-Loads.new.keeper a.0 c.in-Err-answer-2.status c.self.view_is
          (subst (λ (cs : List Asked). Answered c.self.inside.stop c.self.inside.refused cs c.args.keeper.now a.0 c.answer-in-Loads.new.keeper (Err c.in-Err-answer-2.status)) (loads_text _ c.in-Loads.format c.take_body.result.items c.in-Loads.ensures.place c.take_body.ensures.text) a.2),
    )

pub returns : goal.returns
returns g c =
    elim c.match-line_says.branch [
      | in-Nothing w ↦ (
        [],
        untouched g.D.Device.step _ _ w.device-is,
        line_goes_on _ _ _ c.self.invariant c.requires c.in_default.ensures.ok Nothing w.in-Nothing.ensures.commands _ _ _ _ _ _ c.self.view_is
            (w.self-is ∙ ap (λ (q : Pending). record { stop = c.self.inside.stop; refused = c.self.inside.refused; pending = q }) w.begin.ensures)
            (refl, w.keeper-is, inl refl),
      )
      | in-Opens w ↦ (
        [],
        untouched g.D.Device.step _ _ w.device-is,
        line_goes_on _ _ _ c.self.invariant c.requires c.in_default.ensures.ok (Opens w.in-Opens.body) w.in-Opens.ensures.commands _ _ _ _ _ _ c.self.view_is
            (w.self-is ∙ ap (λ (q : Pending). record { stop = c.self.inside.stop; refused = c.self.inside.refused; pending = q }) w.begin-in-Opens.ensures)
            (refl, w.keeper-is, inl refl),
      )
      | in-Inside w ↦ (
        [],
        untouched g.D.Device.step _ _ w.device-is,
        line_goes_on _ _ _ c.self.invariant c.requires c.in_default.ensures.ok Inside w.in-Inside.ensures.commands _ _ _ _ _ _ c.self.view_is
            (w.self-is ∙ ap (λ (q : Pending). record { stop = c.self.inside.stop; refused = c.self.inside.refused; pending = q }) w.keep_line.ensures)
            (refl, w.keeper-is, inl refl),
      )
      | in-Asks+in-Ok w ↦
          let a = w.in-Ok.ensures in (
            a.0,
            rw w.device-is a.1,
            line_goes_on _ _ _ c.self.invariant c.requires c.in_default.ensures.ok (Asks w.in-Asks.command) w.in-Asks.ensures.commands _ _ _ _ _ _ c.self.view_is
                (w.self-is ∙ ap (λ (q : Pending). record { stop = c.self.inside.stop; refused = w.in-Ok.refused; pending = q }) w.begin-in-Asks.ensures)
                (rw w.keeper-is a.2),
          )
      | in-Loads+in-Ok-answer w ↦
          let a = w.in-Ok-answer.ensures in (
            a.0,
            rw w.device-is a.1,
            line_goes_on _ _ _ c.self.invariant c.requires c.in_default.ensures.ok (Loads w.in-Loads.format) w.in-Loads.ensures.commands _ _ _ _ _ _ c.self.view_is
                (w.self-is ∙ ap (λ (q : Pending). record { stop = c.self.inside.stop; refused = w.in-Ok-answer.refused; pending = q }) w.take_body.ensures.rest)
                (rw w.keeper-is
                (subst (λ (cs : List Asked). Answered c.self.inside.stop c.self.inside.refused cs c.args.keeper.now a.0 w.answer-in-Loads.new.keeper (Ok w.in-Ok-answer.refused)) (loads_text _ w.in-Loads.format w.take_body.result.items w.in-Loads.ensures.place w.take_body.ensures.text) a.2)),
          )
    ]
