-- Blank nodes, numbered by their places in the text: a label where it stands first, each `[`, and each cell of a list.
use Rattle.std.specs.Prelude.{ℕ, ◌+◌, List, [], Option, Some, None}
use Rattle.std.specs.Map.{lookup}
use Rattle.indexmap.specs.IndexMap.{insert_entry}
use Rattle.rdf_grammar.specs.Keys.{same_key}

pub record Numbering : Type 0 where
  -- the labels so far, with their numbers
  pub labels : List (List ℕ × ℕ)
  -- the next number
  pub next : ℕ

abbrev pub start : Numbering
start = record { labels = []; next = 0 }

-- the next number
abbrev pub fresh : Numbering → ℕ × Numbering
fresh n = (n.next, record n { next = n.next + 1 })

-- the number of a label: the next one where the label stands for the first time
abbrev pub labelled_as : List ℕ → Option ℕ → Numbering → ℕ × Numbering
labelled_as label (Some number) n = (number, n)
labelled_as label None n = (n.next, record { labels = insert_entry same_key n.labels label n.next; next = n.next + 1 })

abbrev pub labelled : List ℕ → Numbering → ℕ × Numbering
labelled label n = labelled_as label (lookup (same_key label) n.labels) n
