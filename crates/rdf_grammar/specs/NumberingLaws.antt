-- One label is one node, and a blank node without a label is none of another place (Turtle 1.1, sections 2.6 to 2.8; SPARQL 1.1 Query,
-- section 4.1.4).
use Rattle.std.specs.Prelude.{◌≡◌, ◌↔◌, ℕ, List, [], ◌∷◌, Option, Some, None}
use Rattle.std.specs.List.{AllPairs}
use Rattle.rdf_grammar.specs.Numbering.{Numbering, start, fresh, labelled}

-- a blank node as it is written: by a label, or by none, as `[` and the cells of lists
abbrev pub Written : Type 0
Written = Option (List ℕ)

abbrev pub numbered : Written → Numbering → ℕ × Numbering
numbered (Some label) = labelled label
numbered None = fresh

-- blank nodes in the order of the text, each with its number
abbrev pub all_numbered : Numbering → List Written → List (Written × ℕ)
all_numbered n [] = []
all_numbered n (x ∷ xs) = (x, (numbered x n).0) ∷ all_numbered (numbered x n).1 xs

-- both are written by one label
abbrev pub IsOneLabel : Written → Written → Type 0
IsOneLabel (Some a) (Some b) = a ≡ b
IsOneLabel _ _ = ⊥

-- two have one number just where one label writes both
abbrev pub HaveOneNumber : Written × ℕ → Written × ℕ → Type 0
HaveOneNumber x y = (x.1 ≡ y.1) ↔ IsOneLabel x.0 y.0

abbrev pub OneLabelIsOneNode : Type 0
OneLabelIsOneNode = (nodes : List Written) → AllPairs HaveOneNumber (all_numbered start nodes)
