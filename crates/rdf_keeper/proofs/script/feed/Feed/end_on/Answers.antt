use Rattle.std.proofs.Common.{[], refl, inl, sym, ap, subst, ◌∙◌}
use Rattle.rdf_keeper.specs.Inside.Says.{asked_at_end}
use Rattle.rdf_streams.specs.Streams.{Writes}
use Rattle.rdf_keeper.specs.Inside.WriteFaults.{is_write_fault}
use Rattle.rdf_streams.proofs.DeviceLemmas.Written.{writes_nothing}
use Rattle.rdf_keeper.proofs.ScriptLemmas.Runs.{no_write_fault}
use Rattle.rdf_keeper.proofs.ScriptLemmas.Feeds.{end_served, last_reached}
use Rattle.rdf_keeper.proofs.ScriptLemmas.Pieces.{last_asked, loads_text}
use Rattle.rdf_keeper.proofs.script.feed.Feed.end_on.Goals as goal

pub returns-in-Nothing : goal.returns-in-Nothing
returns-in-Nothing g c =
    let p = c.self.inside.gathered in
    let last = last_asked p c.line_says.result c.self.invariant c.line_says.ensures.place c.line_says.ensures.commands ∙ ap (asked_at_end p.body) c.in-Nothing.is in
    ([], subst (λ failed. Writes g.D.Device.step c.args.device.now failed [] c.args.device.now) (sym (ap is_write_fault c.ending.ensures ∙ no_write_fault c.self.inside.refused)) (writes_nothing g.D.Device.step _), end_served _ _ c.self.view_is [] (sym last) _ _ [] _ (last_reached c.self.inside.stop c.self.inside.refused [] _ _ [] _ _ c.ending.ensures (refl, refl, inl refl)))

pub returns-in-Opens : goal.returns-in-Opens
returns-in-Opens g c =
    let p = c.self.inside.gathered in
    let last = last_asked p c.line_says.result c.self.invariant c.line_says.ensures.place c.line_says.ensures.commands ∙ ap (asked_at_end p.body) c.in-Opens.is in
    let a = c.answer_last.ensures in
    (a.0, a.1, end_served _ _ c.self.view_is _ (sym last) _ _ a.0 _ a.2)

pub returns-in-Inside : goal.returns-in-Inside
returns-in-Inside g c =
    let p = c.self.inside.gathered in
    let last = last_asked p c.line_says.result c.self.invariant c.line_says.ensures.place c.line_says.ensures.commands ∙ ap (asked_at_end p.body) c.in-Inside.is in
    let a = c.answer_last-in-Inside.ensures in
    (a.0, a.1, end_served _ _ c.self.view_is _ (sym last) _ _ a.0 _ a.2)

pub returns-in-Asks : goal.returns-in-Asks
returns-in-Asks g c =
    let p = c.self.inside.gathered in
    let last = last_asked p c.line_says.result c.self.invariant c.line_says.ensures.place c.line_says.ensures.commands ∙ ap (asked_at_end p.body) c.in-Asks.is in
    let a = c.answer_last-in-Asks.ensures in
    (a.0, a.1, end_served _ _ c.self.view_is _ (sym last) _ _ a.0 _ a.2)

pub returns : goal.returns
returns g c =
    let p = c.self.inside.gathered in
    let last = last_asked p c.line_says.result c.self.invariant c.line_says.ensures.place c.line_says.ensures.commands ∙ ap (asked_at_end p.body) c.in-Loads.is in
    let a = c.answer_last-in-Loads.ensures in
    (a.0, a.1, end_served _ _ c.self.view_is _ (loads_text p.body c.in-Loads.format c.take_body.result.items c.in-Loads.ensures.place c.take_body.ensures.text ∙ sym last) _ _ a.0 _ a.2)
