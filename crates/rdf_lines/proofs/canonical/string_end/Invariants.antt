use Rattle.std.proofs.Common.{◌≡◌, ◌++◌, ◌∷◌, ℕ, List, length}
use Rattle.std.specs.List.{flat_map}
use Rattle.rdf_terms.specs.TermText.{escaped}
use Rattle.rdf_lines.proofs.canonical.string_end.Given as goal

abbrev pub invariant-loop-behind : goal.invariant-loop-behind
invariant-loop-behind l = (cs : List ℕ) × (l.fn.at ≡ 34 ∷ (flat_map escaped cs ++ l.rest))

abbrev pub decreases-loop-behind : goal.decreases-loop-behind
decreases-loop-behind l = length l.rest
