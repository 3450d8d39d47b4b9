-- The text of a row tells its values.
use Rattle.std.specs.Prelude.{◌≡◌, Bool, true, List, length, Option, Some, None}
use Rattle.std.specs.List.{AllByRecursion}
use Rattle.rdf_terms.specs.Term.{is_term}
use Rattle.rdf_terms.specs.declared.term.Term.{Term}
use Rattle.sparql_results.specs.ResultsText.{row_text}

-- a term, or nothing
abbrev pub is_value : Option Term → Bool
is_value None = true
is_value (Some term) = is_term term

abbrev pub AreValues : List (Option Term) → Type 0
AreValues values = AllByRecursion (λ value. is_value value ≡ true) values

-- Two different rows of one width never have the same text: no tab and no LF stands inside a field, and a field tells its value.
abbrev pub RowsDiffer : Type 0
RowsDiffer = (values others : List (Option Term)) → length values ≡ length others → AreValues values → AreValues others
    → row_text values ≡ row_text others → values ≡ others
