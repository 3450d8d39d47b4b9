-- Nets one after another.
use Rattle.std.specs.Prelude.{◌≡◌, List, [], ◌∷◌}
use Rattle.rdf_dataset.specs.State.{State, Change, net_between}

-- the nets lead from s to t, each from where the one before it ends
abbrev pub Leads : State → List Change → State → Type 0
Leads s [] t = s ≡ t
Leads s (n ∷ ns) t = (mid : State) × (n ≡ net_between s mid) × Leads mid ns t
