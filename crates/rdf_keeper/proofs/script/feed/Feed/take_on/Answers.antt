use Rattle.std.proofs.Common.{◌++◌, [], ap, sym, refl, subst, ◌∙◌, append_assoc, false}
use Rattle.rdf_keeper.specs.Script.Pieces.{EndsWithin, GoesOn}
use Rattle.rdf_keeper.specs.Inside.WriteFaults.{is_write_fault}
use Rattle.rdf_keeper.specs.declared.script.status.Status.TheVariants.{NoMemory}
use Rattle.rdf_streams.proofs.DeviceLemmas.Written.{answers_on, writes_nothing}
use Rattle.rdf_keeper.proofs.ScriptLemmas.Feeds.{ends_further, goes_further, goes_nowhere}
use Rattle.rdf_keeper.proofs.script.feed.Feed.take_on.Goals as goal

pub loop-line-init : goal.loop-line-init
loop-line-init g c = ([], [], refl, writes_nothing g.D.Device.step _, goes_nowhere c.args.self _ c.line_is_open.ensures)

pub loop-line-preserved : goal.loop-line-preserved
loop-line-preserved g c =
    let inv = c.loop-line.invariant in
    let a = c.in-Ok.ensures in
    let parts = c.in-Some.ensures.line.1 in
    (inv.0 ++ c.in-Some.line.now, inv.1 ++ a.0, inv.2 ∙ ap (λ t. inv.0 ++ t) parts ∙ sym (append_assoc inv.0 _ _), answers_on g.D.Device.step _ _ _ false inv.1 a.0 inv.3 a.1, goes_further _ _ _ _ _ _ _ _ _ _ inv.4 a.2)

pub returns-in-Err : goal.returns-in-Err
returns-in-Err g c =
    let inv = c.loop-line.invariant in
    let a = c.in-Err.ensures in
    let parts = c.in-Some.ensures.line.1 in (
      inv.1 ++ a.0,
      answers_on g.D.Device.step _ _ _ (is_write_fault c.in-Err.status) inv.1 a.0 inv.3 a.1,
      subst (λ t. EndsWithin c.args.self t c.args.keeper.now (inv.1 ++ a.0) c.take_line.new.keeper c.in-Err.status) (sym (inv.2 ∙ ap (λ t. inv.0 ++ t) parts)) (ends_further _ _ _ _ _ _ _ _ _ _ inv.4 (a.2 c.in-Some.after.now)),
    )

pub returns-in-Ok-take_front : goal.returns-in-Ok-take_front
returns-in-Ok-take_front g c =
    let inv = c.loop-line.invariant in (
      inv.1 ++ [],
      answers_on g.D.Device.step _ _ _ false inv.1 [] inv.3 (writes_nothing g.D.Device.step _),
      subst (λ t. GoesOn c.args.self t c.args.keeper.now (inv.1 ++ []) c.loop-line.keeper c.in-Ok-take_front.next) (sym inv.2) (goes_further _ _ _ _ _ _ _ _ _ _ inv.4 (c.in-Ok-take_front.ensures c.loop-line.keeper)),
    )

pub returns-in-Err-take_front : goal.returns-in-Err-take_front
returns-in-Err-take_front g c =
    let inv = c.loop-line.invariant in (
      inv.1 ++ [],
      answers_on g.D.Device.step _ _ _ false inv.1 [] inv.3 (writes_nothing g.D.Device.step _),
      subst (λ t. EndsWithin c.args.self t c.args.keeper.now (inv.1 ++ []) c.loop-line.keeper (NoMemory c.in-Err-take_front.refused)) (sym inv.2) (ends_further _ _ _ _ _ _ _ _ _ _ inv.4 (c.in-Err-take_front.ensures c.loop-line.keeper)),
    )
