use Rattle.std.proofs.Common.{◌≡◌, ◌++◌, ℕ, List, length, false}
use Rattle.std.specs.List.{concat}
use Rattle.rdf_streams.specs.Streams.{Writes}
use Rattle.rdf_keeper.specs.Script.Pieces.{GoesOn}
use Rattle.rdf_keeper.proofs.script.feed.Feed.take_on.Given as goal

abbrev pub invariant-loop-line : goal.invariant-loop-line
invariant-loop-line g l =
    (front : List ℕ) × (answers : List (List ℕ)) × (l.fn.piece ≡ front ++ l.rest)
    × Writes g.D.Device.step l.fn.device false (concat answers) l.device
    × GoesOn l.fn.self front l.fn.keeper answers l.keeper l.feed

abbrev pub decreases-loop-line : goal.decreases-loop-line
decreases-loop-line g l = length l.rest
