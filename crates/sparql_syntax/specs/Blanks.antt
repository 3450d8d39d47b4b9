-- The blank nodes of drafts, by their numbers.
use Rattle.std.specs.Prelude.{◌≡◌, ℕ, List, Option, Ok}
use Rattle.std.specs.List.{AllByRecursion}
use Rattle.sparql_grammar.specs.declared.tree.Part.{Part}
use Rattle.sparql_drafts.specs.Blanks.{IsNumbered}
use Rattle.sparql_syntax.specs.declared.drafts.Draft.{Draft}
use Rattle.sparql_syntax.specs.declared.drafts.Draft.TheVariants.{InsertData, DeleteData, Modify, Other}
use Rattle.sparql_syntax.specs.Meaning.{answer}

abbrev pub IsDraftNumbered : Draft → Type 0
IsDraftNumbered (InsertData q) = IsNumbered q
IsDraftNumbered (DeleteData q) = IsNumbered q
IsDraftNumbered (Modify m) = IsNumbered m.delete × IsNumbered m.insert
IsDraftNumbered (Other operation) = Unit {0}

-- The data of each operation, and each template, has blank nodes of its own, whose numbers are just those below their count.
abbrev pub BlankNumbersAreBelow : Type 0
BlankNumbersAreBelow =
    (base : Option (List ℕ)) (parts : List Part) (drafts : List Draft) → answer base parts ≡ Ok drafts → AllByRecursion IsDraftNumbered drafts
