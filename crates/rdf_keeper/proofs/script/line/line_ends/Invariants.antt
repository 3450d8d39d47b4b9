use Rattle.std.proofs.Common.{◌≡◌, ◌≤◌, ◌+◌, length, nat_eq}
use Rattle.std.specs.List.{filter}
use Rattle.rdf_keeper.proofs.script.line.line_ends.Given as goal

abbrev pub invariant-loop-behind : goal.invariant-loop-behind
invariant-loop-behind l =
    (length (filter (λ b. nat_eq b 10) l.text) ≡ l.ends + length (filter (λ b. nat_eq b 10) l.rest)) × (l.ends + length l.rest ≤ length l.text)

abbrev pub decreases-loop-behind : goal.decreases-loop-behind
decreases-loop-behind l = length l.rest
