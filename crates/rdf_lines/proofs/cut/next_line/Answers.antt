use Rattle.std.proofs.Common.{Bool, subst, arith, ◌≤◌, ◌+◌, length, Ok}
use Rattle.std.proofs.lemmas.Grind.{common_steps}
use Rattle.rdf_lines.specs.Pieces.{ahead, room, Fills, TakesPart}
use Rattle.rdf_lines.proofs.PieceLemmas.{Consumes-same, goes_on, goes_on-room, comes_to_end}
use Rattle.rdf_lines.proofs.cut.next_line.Goals as goal

pub returns-in-Ok-true-take_part-clause-line : goal.returns-in-Ok-true-take_part-clause-line
returns-in-Ok-true-take_part-clause-line g c =
    let inv = c.loop-pieces.invariant in
    let filled = subst (λ (r : Bool). Fills (ahead c.loop-pieces.pieces.held (g.R.Read.remaining c.loop-pieces.stream)) (Ok r) (ahead c.fill.new.pieces.held (g.R.Read.remaining c.fill.new.stream)) c.fill.new.pieces.held) c.in-Ok-true.field-0-test c.in-Ok-true.ensures.fills in
    let took = subst (λ (r : Bool). TakesPart c.fill.new.pieces c.loop-pieces.behind_return c.loop-pieces.line.items (Ok r) c.take_part.new.pieces c.take_part.new.behind_return c.take_part.new.line.items) c.in-Ok-true-take_part.field-0-test c.in-Ok-true-take_part.ensures in
    comes_to_end _ (g.R.Read.remaining c.fill.new.stream) _ _ _ c.fill.new.pieces c.take_part.new.pieces inv.0.0 _ _ (Consumes-same _ _ _ _ inv.0.1 filled.1) inv.0.2 took

pub loop-pieces-preserved : goal.loop-pieces-preserved
loop-pieces-preserved g c =
    let inv = c.loop-pieces.invariant in
    let filled = subst (λ (r : Bool). Fills (ahead c.loop-pieces.pieces.held (g.R.Read.remaining c.loop-pieces.stream)) (Ok r) (ahead c.fill.new.pieces.held (g.R.Read.remaining c.fill.new.stream)) c.fill.new.pieces.held) c.in-Ok-true.field-0-test c.in-Ok-true.ensures.fills in
    let took = subst (λ (r : Bool). TakesPart c.fill.new.pieces c.loop-pieces.behind_return c.loop-pieces.line.items (Ok r) c.take_part.new.pieces c.take_part.new.behind_return c.take_part.new.line.items) c.in-Ok-false-take_part.field-0-test c.in-Ok-false-take_part.ensures in
    let fits : room c.take_part.new.pieces + length c.take_part.new.line.items ≤ room c.fill.new.pieces + length c.loop-pieces.line.items = goes_on-room _ _ _ _ _ _ took in
    (goes_on _ (g.R.Read.remaining c.fill.new.stream) _ _ _ c.fill.new.pieces c.take_part.new.pieces inv.0.0 _ _ (Consumes-same _ _ _ _ inv.0.1 filled.1) inv.0.2 took, omega (arith, fits, inv.1, c.in-Ok-true.ensures.room))

pub returns-in-Ok-false-clause-line : goal.returns-in-Ok-false-clause-line
returns-in-Ok-false-clause-line g c = grind (arith, common_steps)

pub returns-in-Ok-true-take_part-clause-room : goal.returns-in-Ok-true-take_part-clause-room
returns-in-Ok-true-take_part-clause-room g c = grind (arith, common_steps)
