use Rattle.std.proofs.Common.{sym}
use Rattle.std.proofs.lemmas.Result.{err_from_is_err_and}
use Rattle.rdf_turtle.proofs.StraightReading.{read_starts, read_on, read_done, read_known, read_room, read_stops}
use Rattle.rdf_turtle.proofs.straight.turns.Goals as goal

pub loop-parser-init : goal.loop-parser-init
loop-parser-init g c = read_starts _ _ _ _ c.requires.formed c.requires.known c.requires.room c.new-declared.ensures.empty

pub turn-requires-clause-formed : goal.turn-requires-clause-formed
turn-requires-clause-formed g c = c.loop-parser.invariant.formed

pub turn-requires-clause-known : goal.turn-requires-clause-known
turn-requires-clause-known g c = read_known c.loop-parser.invariant

pub turn-requires-clause-room : goal.turn-requires-clause-room
turn-requires-clause-room g c = read_room c.loop-parser.invariant (sym c.loop-parser-test.ensures) c.requires.fits

pub loop-parser-smaller : goal.loop-parser-smaller
loop-parser-smaller g c = c.in_ok-pending.ensures.shorter

pub loop-parser-preserved : goal.loop-parser-preserved
loop-parser-preserved g c = read_on c.loop-parser.invariant (sym c.loop-parser-test.ensures) c.in_ok-pending.ensures

pub returns : goal.returns
returns g c = read_done c.loop-parser.invariant (sym c.loop-parser-test.ensures)

pub returns-in_err-pending : goal.returns-in_err-pending
returns-in_err-pending g c =
    let p = err_from_is_err_and c.from_residual.result c.from_residual.ensures.1 in
    rw (p.1, p.2) (read_stops _ c.loop-parser.invariant (sym c.loop-parser-test.ensures) c.in_err-pending.ensures)
