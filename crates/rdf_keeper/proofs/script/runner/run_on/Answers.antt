use Rattle.std.proofs.Common.{◌++◌, ◌∷◌, [], take, subst, refl, arith, length-take}
use Rattle.rdf_streams.specs.Devices.{Gave, ReadFault}
use Rattle.rdf_streams.proofs.DeviceLemmas.Logs.{Leads-append, Leads-one, some_left}
use Rattle.rdf_keeper.proofs.ScriptLemmas.Ordered.{answered_on, ran_into, ran_out, ran_to_end, ran_to_fault, ready_first}
use Rattle.rdf_keeper.proofs.script.runner.run_on.Goals as goal

pub loop-turn-init : goal.loop-turn-init
loop-turn-init g c = ([], [], refl, ready_first c.args.settings.stop c.args.keeper.now _ c.new-feed.ensures)

pub returns-in-Ok-eq0 : goal.returns-in-Ok-eq0
returns-in-Ok-eq0 g c =
    let inv = c.loop-turn.invariant in
    let e = c.end_on.ensures in
    let step = g.D.Device.step in
    let read = subst (λ n. step c.loop-turn.device (Gave (take n c.read.new.buffer)) c.read.new.self) c.in-Ok-eq0.field-0-test c.in-Ok-eq0.ensures.event in (
      (inv.0 ++ Gave [] ∷ []) ++ e.1.0,
      inv.1 ++ e.0,
      Leads-append step _ (inv.0 ++ Gave [] ∷ []) _ e.1.0 _ (Leads-one step _ inv.0 _ (Gave []) _ inv.2 read) e.1.1,
      ran_to_end c.args.settings.stop _ c.args.calls c.loop-turn.turn inv.0 inv.1 _ _ inv.3 c.loop-turn-test.true e.1.0 e.0 c.end_on.result e.1.2 _ e.2,
    )

pub returns-in-Err : goal.returns-in-Err
returns-in-Err g c =
    let inv = c.loop-turn.invariant in (
      inv.0 ++ ReadFault ∷ [],
      inv.1,
      Leads-one g.D.Device.step _ inv.0 _ ReadFault _ inv.2 c.in-Err.ensures.event,
      ran_to_fault c.args.settings.stop _ c.args.calls c.loop-turn.turn inv.0 inv.1 _ _ inv.3 c.loop-turn-test.true,
    )

pub returns : goal.returns
returns g c =
    let inv = c.loop-turn.invariant in
    (inv.0, inv.1, inv.2, ran_out c.args.settings.stop _ c.args.calls _ inv.0 inv.1 _ _ inv.3 (omega (arith, c.loop-turn-test.false, c.loop-turn.auto.turn-end)))

pub returns-in-Err-take_on : goal.returns-in-Err-take_on
returns-in-Err-take_on g c =
    let inv = c.loop-turn.invariant in
    let a = c.in-Err-take_on.ensures in
    let b = c.in-Ok.ensures in
    let step = g.D.Device.step in
    let bytes = take c.in-Ok.n c.read.new.buffer in
    let read = inv.0 ++ Gave bytes ∷ [] in (
      read ++ a.1.0,
      inv.1 ++ a.0,
      Leads-append step _ read _ a.1.0 _ (Leads-one step _ inv.0 _ (Gave bytes) _ inv.2 b.event) a.1.1,
      ran_into c.args.settings.stop _ c.args.calls c.loop-turn.turn inv.0 inv.1 _ _ inv.3 c.loop-turn-test.true bytes (some_left c.in-Ok.n c.read.new.buffer c.in-Ok.n-test.1 b.bound.0) (omega (arith, b.bound.0, length-take c.in-Ok.n c.read.new.buffer)) a.1.0 a.0 c.in-Err-take_on.status a.1.2 _ a.2,
    )

pub loop-turn-preserved : goal.loop-turn-preserved
loop-turn-preserved g c =
    let inv = c.loop-turn.invariant in
    let a = c.in-Ok-take_on.ensures in
    let b = c.in-Ok.ensures in
    let step = g.D.Device.step in
    let bytes = take c.in-Ok.n c.read.new.buffer in
    let read = inv.0 ++ Gave bytes ∷ [] in (
      read ++ a.1.0,
      inv.1 ++ a.0,
      Leads-append step _ read _ a.1.0 _ (Leads-one step _ inv.0 _ (Gave bytes) _ inv.2 b.event) a.1.1,
      answered_on c.args.settings.stop _ c.args.calls c.loop-turn.turn inv.0 inv.1 _ _ inv.3 bytes (some_left c.in-Ok.n c.read.new.buffer c.in-Ok.n-test.1 b.bound.0) (omega (arith, b.bound.0, length-take c.in-Ok.n c.read.new.buffer)) a.1.0 a.0 a.1.2 _ _ a.2,
    )
