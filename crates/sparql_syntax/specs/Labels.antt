-- Blank node labels that stand in two places where one alone may have them (SPARQL 1.1 Query, sections 4.1.4 and 19.6).
use Rattle.std.specs.Prelude.{ℕ, Bool, false, ◌||◌, List, [], ◌∷◌}
use Rattle.std.specs.List.{list_any}
use Rattle.indexmap.specs.IndexSet.{insert_key}
use Rattle.rdf_grammar.specs.Keys.{key_of, same_key}
use Rattle.sparql_queries.specs.Groups.{Labels}

abbrev pub is_among : List (List ℕ) → List ℕ → Bool
is_among known label = list_any (same_key (key_of label)) known

-- these and the labels
abbrev pub known_behind : List (List ℕ) → List (List ℕ) → List (List ℕ)
known_behind known [] = known
known_behind known (label ∷ labels) = known_behind (insert_key same_key known (key_of label)) labels

-- these and the labels of each list
abbrev pub all_known_behind : List (List ℕ) → Labels → List (List ℕ)
all_known_behind known [] = known
all_known_behind known (labels ∷ lists) = all_known_behind (known_behind known labels) lists

-- some list has a label that is known, or that stood in a list before it
abbrev pub repeats_label : List (List ℕ) → Labels → Bool
repeats_label known [] = false
repeats_label known (labels ∷ lists) = list_any (is_among known) labels || repeats_label (known_behind known labels) lists
