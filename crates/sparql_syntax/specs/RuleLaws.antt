-- What the static rules are for.
use Rattle.std.specs.Prelude.{◌≡◌, ◌≤◌, ◌⊎◌, ℕ, Bool, true, false, List, is_some, Ok}
use Rattle.std.specs.List.{count_by, list_all, list_any, sum_by}
use Rattle.rdf_grammar.specs.Keys.{key_of, same_key}
use Rattle.sparql_syntax.specs.declared.drafts.Draft.{Draft}
use Rattle.sparql_syntax.specs.declared.drafts.Draft.TheVariants as draft
use Rattle.sparql_drafts.specs.declared.draft.QuadPattern.{QuadPattern}
use Rattle.sparql_syntax.specs.Rules.{quad_of, judged, reuses_label}
use Rattle.sparql_trees.specs.declared.operation.Operation.{Operation}

abbrev pub are_quads : List QuadPattern → Bool
are_quads patterns = list_all (λ p. is_some (quad_of p)) patterns

abbrev pub has_quads : Draft → Bool
has_quads (draft.InsertData quads) = are_quads quads.patterns
has_quads (draft.DeleteData quads) = are_quads quads.patterns
has_quads (draft.Modify m) = true
has_quads (draft.Other other) = true

-- in a request that keeps to the rules each pattern of data is a quad
abbrev pub PatternsAreQuads : Type 0
PatternsAreQuads = (drafts : List Draft) (operations : List Operation) → judged drafts ≡ Ok operations → list_all has_quads drafts ≡ true

-- ---- labels (SPARQL 1.1 Query, sections 4.1.4 and 19.6)

-- the label is one of these
abbrev pub stands_in : List ℕ → List (List ℕ) → Bool
stands_in label labels = list_any (λ l. same_key (key_of label) (key_of l)) labels

-- the label stands in the data that the operation inserts
abbrev pub brings_label : List ℕ → Draft → Bool
brings_label label (draft.InsertData quads) = stands_in label quads.labels
brings_label label (draft.DeleteData quads) = false
brings_label label (draft.Modify m) = false
brings_label label (draft.Other other) = false

-- in how many basic graph patterns of the operation the label stands
abbrev pub patterns_with : List ℕ → Draft → ℕ
patterns_with label (draft.Modify m) = count_by (stands_in label) m.labels
patterns_with label (draft.InsertData quads) = 0
patterns_with label (draft.DeleteData quads) = 0
patterns_with label (draft.Other other) = 0

-- some label stands in the data of two INSERT DATA operations, or in two basic graph patterns, of one operation or of two
abbrev pub HasSharedLabel : List Draft → Type 0
HasSharedLabel drafts = (label : List ℕ) × ((2 ≤ count_by (brings_label label) drafts) ⊎ (2 ≤ sum_by (patterns_with label) drafts))

-- a label is reused just where one is shared
abbrev pub LabelsAreShared : Type 0
LabelsAreShared = (drafts : List Draft) → (reuses_label drafts ≡ true → HasSharedLabel drafts) × (HasSharedLabel drafts → reuses_label drafts ≡ true)
