-- The numbers of the graphs' names, as keys have them.
use Rattle.std.specs.Prelude.{ℕ, zero, suc, List, [], ◌∷◌}
use Rattle.rdf_orders.specs.Quads.{quad_of}

-- the name of the graph that has the number, where it has one
abbrev pub named_by : ℕ → List ℕ
named_by zero = []
named_by (suc id) = id ∷ []

-- the name of the graph of the quad that has this key in `Spo`
abbrev pub name_in : List ℕ → List ℕ
name_in key = named_by (quad_of key).graph
