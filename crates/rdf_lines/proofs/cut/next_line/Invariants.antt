use Rattle.std.proofs.Common.{◌≤◌, ◌+◌, List, [], ℕ, length}
use Rattle.std.specs.Io.KnownBytes.{Consumes}
use Rattle.rdf_lines.specs.Pieces.{ahead, room, Hold}
use Rattle.rdf_lines.proofs.cut.next_line.Given as goal

abbrev pub invariant-loop-pieces : goal.invariant-loop-pieces
invariant-loop-pieces g l =
    ((read : List ℕ) × Consumes (ahead l.fn.pieces.held (g.R.Read.remaining l.fn.stream)) (ahead l.pieces.held (g.R.Read.remaining l.stream)) read × Hold l.fn.behind_return read [] l.line.items l.behind_return)
    × (room l.pieces + length l.line.items ≤ room l.fn.pieces)

abbrev pub decreases-loop-pieces : goal.decreases-loop-pieces
decreases-loop-pieces g l = room l.pieces
