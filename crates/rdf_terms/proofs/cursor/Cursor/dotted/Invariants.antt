use Rattle.std.proofs.Common.{◌≡◌, ℕ, List, Option, length}
use Rattle.rdf_terms.specs.Dotted.{ReadsUnits, dotted_at}
use Rattle.rdf_terms.proofs.cursor.Cursor.dotted.Given as goal

abbrev pub invariant-loop-behind : goal.invariant-loop-behind
invariant-loop-behind g l = (one : List ℕ → Option (List ℕ)) → ReadsUnits (goal.F-post g l.fn.unit) one → dotted_at one l.rest ≡ dotted_at one l.fn.self

abbrev pub decreases-loop-behind : goal.decreases-loop-behind
decreases-loop-behind g l = length l.rest
