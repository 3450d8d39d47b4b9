use Rattle.std.proofs.Common.{rules, subst, take, length-take, arith}
use Rattle.std.specs.Io.KnownBytes.{Consumes, IsAtEnd}
use Rattle.rdf_keeper.proofs.StartingLemmas.{reading_first, reads_further, reads_to_end}
use Rattle.rdf_keeper.proofs.program.starting.begun_by_lines.Goals as goal

pub loop-turn-init : goal.loop-turn-init
loop-turn-init g c = reading_first _ c.args.format c.args.base _ c.new.ensures.fed c.new.ensures.format c.new.ensures.base_iri c.new.ensures.number

pub returns-in-Ok-eq0 : goal.returns-in-Ok-eq0
returns-in-Ok-eq0 g c =
    let now = g.R.Read.remaining c.loop-turn.reader in
    let left = g.R.Read.remaining c.read.new.self in
    let b = c.in-Ok-eq0.ensures.bytes in
    let none = subst (λ n. Consumes now left (take n c.read.new.buf)) c.in-Ok-eq0.field-0-test b.0 in
    let end : IsAtEnd left = b.1 c.in-Ok-eq0.field-0-test (search rules) in
    reads_to_end _ now c.args.format c.args.base c.loop-turn.turn c.loop-turn.so_far c.loop-turn.invariant left none end c.end.result c.end.ensures

pub loop-turn-preserved : goal.loop-turn-preserved
loop-turn-preserved g c =
    let now = g.R.Read.remaining c.loop-turn.reader in
    let left = g.R.Read.remaining c.read.new.self in
    reads_further _ now c.args.format c.args.base c.loop-turn.turn c.loop-turn.so_far c.loop-turn.invariant left (take c.in-Ok.n c.read.new.buf) (omega (arith, c.in-Ok.ensures.bound.0, length-take c.in-Ok.n c.read.new.buf)) c.in-Ok.ensures.bytes.0
    c.in-Ok-feed.next c.in-Ok-feed.ensures
