use Rattle.std.proofs.Common.{◌++◌, [], take, refl, inl, inr, sym, subst, ◌∙◌}
use Rattle.rdf_streams.specs.Devices.{Took, WriteFault}
use Rattle.rdf_streams.proofs.DeviceLemmas.Logs.{not_none, some_left}
use Rattle.rdf_streams.proofs.DeviceLemmas.Written.{failed_on, took_on, writes_nothing}
use Rattle.rdf_streams.proofs.StreamLemmas.{split_on}
use Rattle.rdf_streams.proofs.streams.writing.write_on.Goals as goal

pub loop-rest-init : goal.loop-rest-init
loop-rest-init g c = ([], refl, writes_nothing g.D.Device.step c.args.device.now)

pub loop-rest-preserved : goal.loop-rest-preserved
loop-rest-preserved g c =
    let inv = c.loop-rest.invariant in
    (inv.0 ++ take c.in-Ok.n c.loop-rest.rest.now, split_on _ _ _ _ _ inv.1 c.split_at.ensures.back, took_on g.D.Device.step _ _ _ inv.0 _ inv.2 (some_left c.in-Ok.n c.loop-rest.rest.now c.in-Ok.n-test.1 c.in-Ok.ensures.bound) c.in-Ok.ensures.event)

pub returns-in-Ok-eq0 : goal.returns-in-Ok-eq0
returns-in-Ok-eq0 g c =
    let inv = c.loop-rest.invariant in
    let step = g.D.Device.step in
    let none = subst (λ n. step c.loop-rest.device (Took (take n c.loop-rest.rest.now)) c.write.new.self) c.in-Ok-eq0.field-0-test c.in-Ok-eq0.ensures.event in
    (inv.0, c.loop-rest.rest.now, inv.1, not_none c.loop-rest.rest.now (sym c.is_empty.ensures ∙ c.loop-rest-test.true), failed_on step _ _ _ inv.0 (Took []) inv.2 none (inr refl))

pub returns-in-Err : goal.returns-in-Err
returns-in-Err g c =
    let inv = c.loop-rest.invariant in
    (inv.0, c.loop-rest.rest.now, inv.1, not_none c.loop-rest.rest.now (sym c.is_empty.ensures ∙ c.loop-rest-test.true), failed_on g.D.Device.step _ _ _ inv.0 WriteFault inv.2 c.in-Err.ensures.event (inl refl))
