-- What the text of an operation says before its static rules are asked.
use Rattle.sparql_drafts.specs.Drafts.{ArePatternsBelow}
use Rattle.sparql_syntax.specs.declared.drafts.Draft.{Draft}
use Rattle.sparql_syntax.specs.declared.drafts.Draft.TheVariants as draft

-- the blank nodes of data have numbers below their count; templates are taken as they are
abbrev pub IsDraftBelow : Draft → Type 0
IsDraftBelow (draft.InsertData quads) = ArePatternsBelow quads.blanks quads.patterns
IsDraftBelow (draft.DeleteData quads) = ArePatternsBelow quads.blanks quads.patterns
IsDraftBelow (draft.Modify m) = Unit {0}
IsDraftBelow (draft.Other operation) = Unit {0}
