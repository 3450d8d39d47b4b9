-- What a request makes of a state, as a net.
use Rattle.std.specs.Prelude.{◌≡◌, List, Ok}
use Rattle.rdf_dataset.specs.State.{State, Change, IsSound, net_between}
use Rattle.sparql_eval.specs.Operations.{steps}
use Rattle.sparql_trees.specs.declared.operation.Operation.{Operation}

-- the net from a state to the one that the operations lead to, which is sound
abbrev pub IsNetOf : State → List Operation → Change → Type 0
IsNetOf s operations net = (t : State) × (steps s operations ≡ Ok t) × IsSound t × (net ≡ net_between s t)
