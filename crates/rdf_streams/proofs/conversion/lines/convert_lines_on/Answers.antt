use Rattle.std.proofs.Common.{◌∙◌, ◌++◌, ◌∷◌, [], take, length-take, subst, sym, refl, arith, false, ℕ, List}
use Rattle.rdf_streams.specs.Devices.{Gave, ReadFault}
use Rattle.rdf_streams.specs.Inside.Gathered.{Grows}
use Rattle.rdf_streams.specs.Streams.{Writes}
use Rattle.rdf_streams.proofs.ConversionLemmas.Ordered.{cut_there, ends_cut, ends_there, fails_there, goes_further, ready_first, runs_out, stops_there}
use Rattle.rdf_streams.proofs.DeviceLemmas.Logs.{Leads-append, Leads-one, some_left}
use Rattle.rdf_streams.proofs.DeviceLemmas.Written.{wrote_err, wrote_ok}
use Rattle.rdf_streams.proofs.conversion.lines.convert_lines_on.Goals as goal

pub loop-turn-init : goal.loop-turn-init
loop-turn-init g c = ([], [], refl, ready_first c.args.format _ c.new-document.ensures.fed c.new-document.ensures.format c.new-document.ensures.number, c.new-lines.ensures.items)

pub returns-in-Err : goal.returns-in-Err
returns-in-Err g c =
    let inv = c.loop-turn.invariant in
    (inv.0 ++ ReadFault ∷ [], Leads-one g.D.Device.step _ inv.0 _ ReadFault _ inv.2 c.in-Err.ensures.event, fails_there 1099511627776 c.loop-turn.turn c.args.format inv.0 inv.1 _ inv.3)

pub returns : goal.returns
returns g c =
    let inv = c.loop-turn.invariant in
    (inv.0, inv.2, runs_out 1099511627776 c.loop-turn.turn c.args.format inv.0 inv.1 _ inv.3 (omega (arith, c.loop-turn-test.false, c.loop-turn.auto.turn-end)))

-- ---- the end

pub returns-then-is_err : goal.returns-then-is_err
returns-then-is_err g c =
    let step = g.D.Device.step in
    let inv = c.loop-turn.invariant in
    let e = c.gather_last-ended.ensures in
    let held = c.gather_last-ended.new.lines.items in
    let grown = subst (λ (o : List ℕ). Grows o e.0 held) inv.4 e.1 in
    let w = wrote_err step _ _ _ c.write_on.result (sym c.is_err.ensures.value ∙ c.if-is_err.true) c.write_on.ensures in
    let read = subst (λ n. step c.loop-turn.device (Gave (take n c.read.new.buffer)) c.read.new.self) c.in-Ok-eq0.field-0-test c.in-Ok-eq0.ensures.event in
    let log = inv.0 ++ Gave [] ∷ [] in (
      log ++ w.4.0,
      Leads-append step _ log _ w.4.0 _ (Leads-one step _ inv.0 _ (Gave []) _ inv.2 read) w.4.1,
      ends_cut 1099511627776 c.loop-turn.turn c.args.format inv.0 inv.1 c.loop-turn.document inv.3 w.4.0 e.0 held grown w.0 w.1 (sym c.as_slice.ensures.value ∙ w.2) w.3 w.4.2 c.gather_last-ended.result e.2,
    )

pub returns-in-Ok-eq0 : goal.returns-in-Ok-eq0
returns-in-Ok-eq0 g c =
    let step = g.D.Device.step in
    let inv = c.loop-turn.invariant in
    let e = c.gather_last-ended.ensures in
    let held = c.gather_last-ended.new.lines.items in
    let grown = subst (λ (o : List ℕ). Grows o e.0 held) inv.4 e.1 in
    let w = subst (λ (t : List ℕ). Writes step c.read.new.self false t c.write_on.new.device) c.as_slice.ensures.value (wrote_ok step _ _ _ c.write_on.result (sym c.is_err.ensures.value ∙ c.if-is_err.false) c.write_on.ensures) in
    let read = subst (λ n. step c.loop-turn.device (Gave (take n c.read.new.buffer)) c.read.new.self) c.in-Ok-eq0.field-0-test c.in-Ok-eq0.ensures.event in
    let log = inv.0 ++ Gave [] ∷ [] in (
      log ++ w.0,
      Leads-append step _ log _ w.0 _ (Leads-one step _ inv.0 _ (Gave []) _ inv.2 read) w.1,
      ends_there 1099511627776 c.loop-turn.turn c.args.format inv.0 inv.1 c.loop-turn.document inv.3 w.0 e.0 held grown w.2 c.gather_last-ended.result e.2,
    )

-- ---- a piece

pub returns-then-is_err-2 : goal.returns-then-is_err-2
returns-then-is_err-2 g c =
    let step = g.D.Device.step in
    let inv = c.loop-turn.invariant in
    let e = c.gather-fed.ensures in
    let b = c.in-Ok.ensures in
    let bytes = take c.in-Ok.n c.read.new.buffer in
    let held = c.gather-fed.new.lines.items in
    let grown = subst (λ (o : List ℕ). Grows o e.0 held) inv.4 e.1 in
    let w = wrote_err step _ _ _ c.write_on-in-Ok.result (sym c.is_err-in-Ok.ensures.value ∙ c.if-is_err-2.true) c.write_on-in-Ok.ensures in
    let log = inv.0 ++ Gave bytes ∷ [] in (
      log ++ w.4.0,
      Leads-append step _ log _ w.4.0 _ (Leads-one step _ inv.0 _ (Gave bytes) _ inv.2 b.event) w.4.1,
      cut_there 1099511627776 c.loop-turn.turn c.args.format inv.0 inv.1 c.loop-turn.document inv.3 bytes (omega (arith, b.bound.0, length-take c.in-Ok.n c.read.new.buffer)) w.4.0 e.0 held grown c.what_is_fed_comes_first.ensures c.gather-fed.result e.2 w.0 w.1
          (sym c.as_slice-in-Ok.ensures.value ∙ w.2) w.3 w.4.2,
    )

pub returns-in-Err-fed : goal.returns-in-Err-fed
returns-in-Err-fed g c =
    let step = g.D.Device.step in
    let inv = c.loop-turn.invariant in
    let e = c.in-Err-fed.ensures in
    let b = c.in-Ok.ensures in
    let bytes = take c.in-Ok.n c.read.new.buffer in
    let held = c.gather-fed.new.lines.items in
    let grown = subst (λ (o : List ℕ). Grows o e.0 held) inv.4 e.1 in
    let w = subst (λ (t : List ℕ). Writes step c.read.new.self false t c.write_on-in-Ok.new.device) c.as_slice-in-Ok.ensures.value (wrote_ok step _ _ _ c.write_on-in-Ok.result (sym c.is_err-in-Ok.ensures.value ∙ c.if-is_err-2.false) c.write_on-in-Ok.ensures) in
    let log = inv.0 ++ Gave bytes ∷ [] in (
      log ++ w.0,
      Leads-append step _ log _ w.0 _ (Leads-one step _ inv.0 _ (Gave bytes) _ inv.2 b.event) w.1,
      stops_there 1099511627776 c.loop-turn.turn c.args.format inv.0 inv.1 c.loop-turn.document inv.3 bytes (omega (arith, b.bound.0, length-take c.in-Ok.n c.read.new.buffer)) w.0 e.0 held grown w.2 c.in-Err-fed.fault e.2,
    )

pub loop-turn-preserved : goal.loop-turn-preserved
loop-turn-preserved g c =
    let step = g.D.Device.step in
    let inv = c.loop-turn.invariant in
    let e = c.in-Ok-fed.ensures in
    let b = c.in-Ok.ensures in
    let bytes = take c.in-Ok.n c.read.new.buffer in
    let held = c.gather-fed.new.lines.items in
    let grown = subst (λ (o : List ℕ). Grows o e.0 held) inv.4 e.1 in
    let w = subst (λ (t : List ℕ). Writes step c.read.new.self false t c.write_on-in-Ok.new.device) c.as_slice-in-Ok.ensures.value (wrote_ok step _ _ _ c.write_on-in-Ok.result (sym c.is_err-in-Ok.ensures.value ∙ c.if-is_err-2.false) c.write_on-in-Ok.ensures) in
    let log = inv.0 ++ Gave bytes ∷ [] in (
      log ++ w.0,
      inv.1 ++ e.0,
      Leads-append step _ log _ w.0 _ (Leads-one step _ inv.0 _ (Gave bytes) _ inv.2 b.event) w.1,
      goes_further 1099511627776 c.loop-turn.turn c.args.format inv.0 inv.1 c.loop-turn.document inv.3 bytes (omega (arith, b.bound.0, length-take c.in-Ok.n c.read.new.buffer)) w.0 e.0 held grown w.2
          (some_left c.in-Ok.n c.read.new.buffer c.in-Ok.n-test.1 b.bound.0) c.in-Ok-fed.next e.2,
      c.clear.ensures.items,
    )
