use Rattle.std.proofs.Common.{◌++◌, ◌∷◌, [], length, take}
use Rattle.rdf_dataset.specs.Chains.{Leads}
use Rattle.rdf_dataset.specs.State.{State}
use Rattle.rdf_dataset.proofs.net.Net.of_chain.Given as goal

abbrev pub invariant-loop-net : goal.invariant-loop-net
invariant-loop-net l = (s t : State) → Leads s (take l.net-index l.nets) t → Leads s l.runs.items t

abbrev pub invariant-loop-earlier : goal.invariant-loop-earlier
invariant-loop-earlier l = (s t : State) → Leads s l.nets t → Leads s (l.runs.items ++ l.whole ∷ []) t

abbrev pub decreases-loop-earlier : goal.decreases-loop-earlier
decreases-loop-earlier l = length l.runs.items
