-- What is left of a run of keys in an order.
use Rattle.std.specs.Prelude.{ℕ, eqb, if◌then◌else◌, Bool, List, [], ◌∷◌}
use Rattle.std.specs.List.{starts_with}
use Rattle.rdf_orders.specs.declared.order.Order.{Order}
use Rattle.rdf_orders.specs.declared.order.Order.TheVariants.{Spo}
use Rattle.rdf_orders.specs.Quads.{key_in, quad_at}

-- the keys up to the first that doesn't begin with the prefix, each as its quad's key in `Spo`
abbrev pub run_of : Order → List ℕ → List (List ℕ) → List (List ℕ)
run_of order prefix [] = []
run_of order prefix (k ∷ keys) = if starts_with eqb k prefix then key_in Spo (quad_at order k) ∷ run_of order prefix keys else []

-- nothing is left of a run that has ended
abbrev pub left_of_run : Order → List ℕ → Bool → List (List ℕ) → List (List ℕ)
left_of_run order prefix has_ended keys = if has_ended then [] else run_of order prefix keys
