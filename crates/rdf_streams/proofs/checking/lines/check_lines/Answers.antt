use Rattle.std.proofs.Common.{rules, subst, take, length-take, arith}
use Rattle.std.specs.Io.KnownBytes.{Consumes, IsAtEnd}
use Rattle.rdf_streams.proofs.CheckLemmas.{counted_first, counts_further, ends_here, fails_here, keeps_same, stops_here}
use Rattle.rdf_streams.proofs.checking.lines.check_lines.Goals as goal

pub loop-turn-init : goal.loop-turn-init
loop-turn-init g c = counted_first _ c.args.format _ c.new-document.ensures.fed c.new-document.ensures.format c.new-document.ensures.number

pub returns-in-Ok-eq0 : goal.returns-in-Ok-eq0
returns-in-Ok-eq0 g c text e =
    let now = g.R.Read.remaining c.loop-turn.reader in
    let left = g.R.Read.remaining c.read.new.self in
    let b = c.in-Ok-eq0.ensures.bytes in
    let none = subst (λ n. Consumes now left (take n c.read.new.buf)) c.in-Ok-eq0.field-0-test b.0 in
    let end : IsAtEnd left = b.1 c.in-Ok-eq0.field-0-test (search rules) in
    ends_here _ now c.args.format c.loop-turn.turn c.loop-turn.document c.loop-turn.count c.loop-turn.invariant left none end c.count_last.result c.count_last.ensures text e

pub returns-in-Err-count_piece : goal.returns-in-Err-count_piece
returns-in-Err-count_piece g c text e =
    let now = g.R.Read.remaining c.loop-turn.reader in
    let left = g.R.Read.remaining c.read.new.self in
    stops_here _ now c.args.format c.loop-turn.turn c.loop-turn.document c.loop-turn.count c.loop-turn.invariant left (take c.in-Ok.n c.read.new.buf) c.in-Ok.ensures.bytes.0 c.in-Err-count_piece.fault c.in-Err-count_piece.ensures text e

pub returns-in-Err : goal.returns-in-Err
returns-in-Err g c text e =
    fails_here _ (g.R.Read.remaining c.loop-turn.reader) c.args.format c.loop-turn.turn c.loop-turn.document c.loop-turn.count c.loop-turn.invariant (g.R.Read.remaining c.read.new.self) c.in-Err.ensures.bytes text e

pub loop-turn-preserved : goal.loop-turn-preserved
loop-turn-preserved g c =
    let now = g.R.Read.remaining c.loop-turn.reader in
    let left = g.R.Read.remaining c.read.new.self in
    counts_further _ now c.args.format c.loop-turn.turn c.loop-turn.document c.loop-turn.count c.loop-turn.invariant left (take c.in-Ok.n c.read.new.buf) (omega (arith, c.in-Ok.ensures.bound.0, length-take c.in-Ok.n c.read.new.buf)) c.in-Ok.ensures.bytes.0
    c.in-Ok-count_piece.next c.in-Ok-count_piece.counted c.in-Ok-count_piece.ensures

pub returns : goal.returns
returns g c text e =
    let now = g.R.Read.remaining c.loop-turn.reader in
    fails_here _ now c.args.format c.loop-turn.turn c.loop-turn.document c.loop-turn.count c.loop-turn.invariant now (keeps_same now) text e
