use Rattle.std.proofs.Common.{◌++◌, ◌∷◌, [], length}
use Rattle.rdf_dataset.specs.Chains.{Leads}
use Rattle.rdf_dataset.specs.State.{State}
use Rattle.rdf_dataset.proofs.chain.behind_smaller.Given as goal

abbrev pub invariant-loop-earlier : goal.invariant-loop-earlier
invariant-loop-earlier l =
    (s t : State) → Leads s l.fn.runs.items t → Leads s (l.runs.items ++ l.smaller ∷ []) t

abbrev pub decreases-loop-earlier : goal.decreases-loop-earlier
decreases-loop-earlier l = length l.runs.items
