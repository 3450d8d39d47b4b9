-- The blank node labels that a walk over a text has seen, place by place.
use Rattle.std.specs.Prelude.{ℕ, List, [], ◌∷◌, ◌++◌}
use Rattle.rdf_grammar.specs.Terminals.{Slice}
use Rattle.sparql_syntax.specs.Labels.{known_behind}

-- those of the places before the one at hand, and its own so far
pub record Seen : Type 0 where
  pub before : List (List ℕ)
  pub here : List (List ℕ)

abbrev pub none_seen : Seen
none_seen = record { before = []; here = [] }

abbrev pub with_label : Seen → Slice → Seen
with_label seen text = record { before = seen.before; here = seen.here ++ text ∷ [] }

-- another place begins, and the place at hand is one before it
abbrev pub moved_on : Seen → Seen
moved_on seen = record { before = known_behind seen.before seen.here; here = [] }
