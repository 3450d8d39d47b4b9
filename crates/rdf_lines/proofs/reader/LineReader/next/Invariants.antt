use Rattle.std.proofs.Common.{List, ℕ, Bool, ◌≤◌}
use Rattle.rdf_lines.specs.Reader.{Passes, over}
use Rattle.rdf_lines.proofs.reader.LineReader.next.Given as goal

abbrev pub invariant-loop-self : goal.invariant-loop-self
invariant-loop-self g l = (ls : List (List ℕ)) × (ended : Bool) × Passes (over (g.R.Read.remaining l.initial.stream) l.initial.self) ls (over (g.R.Read.remaining l.stream) l.self) ended × (l.self.left ≤ l.initial.self.left)

abbrev pub decreases-loop-self : goal.decreases-loop-self
decreases-loop-self g l = l.self.left
