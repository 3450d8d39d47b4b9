-- Operations of which no later one reads what they leave.
use Rattle.std.specs.Prelude.{Bool, true, false, ◌||◌, List, [], ◌∷◌, IsTrue, ⊤}
use Rattle.std.specs.List.{AllByRecursion}
use Rattle.sparql_eval.specs.Inside.Staging.{has_pattern}
use Rattle.sparql_trees.specs.declared.operation.Operation.{Operation}
use Rattle.sparql_trees.specs.declared.operation.Operation.TheVariants.{InsertData, DeleteData, Modify, Create, Clear, Drop, Copy, Move, Add}

-- the operation names the quads that come or go
abbrev pub is_data : Operation → Bool
is_data (InsertData brought) = true
is_data (DeleteData quads) = true
is_data (Modify m) = false
is_data (Create silent graph) = false
is_data (Clear silent graphs) = false
is_data (Drop silent graphs) = false
is_data (Copy silent from to) = false
is_data (Move silent from to) = false
is_data (Add silent from to) = false

abbrev pub AreData : List Operation → Type 0
AreData operations = AllByRecursion (λ operation. IsTrue (is_data operation)) operations

-- a pattern reads what is there before its operation; data reads nothing
abbrev pub may_begin : Operation → Bool
may_begin operation = is_data operation || has_pattern operation

-- none reads what one before it leaves: data, and at most a pattern before all of it
abbrev pub AreUnread : List Operation → Type 0
AreUnread [] = ⊤
AreUnread (operation ∷ operations) = IsTrue (may_begin operation) × AreData operations
