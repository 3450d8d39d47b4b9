-- What the texts of results tell.
use Rattle.std.specs.Prelude.{◌≡◌, ◌≢◌, ℕ, List, [], ◌∷◌, length, map, Option}
use Rattle.std.specs.List.{AllByRecursion}
use Rattle.rdf_terms.specs.declared.term.Term.{Term}
use Rattle.sparql_results.specs.CsvText.{csv_selection, plain_text}
use Rattle.sparql_results.specs.JsonText.{json_selection}
use Rattle.sparql_results.specs.RowLaws.{AreValues}

-- ---- CSV: two selections of one text have the same columns, and rows of the same strings

abbrev pub strings : List (List (Option Term)) → List (List (List ℕ))
strings rows = map (map plain_text) rows

abbrev pub CsvTellsStrings : Type 0
CsvTellsStrings = (columns others : List (List ℕ)) (rows more : List (List (Option Term))) → csv_selection columns rows ≡ csv_selection others more
    → (columns ≡ others) × (strings rows ≡ strings more)

-- ---- JSON: two selections of one text have the same columns and the same rows

abbrev pub AreDistinct : List (List ℕ) → Type 0
AreDistinct [] = Unit {0}
AreDistinct (name ∷ names) = AllByRecursion (λ other. name ≢ other) names × AreDistinct names

-- columns of different names, and for each of them a value in each row
pub record IsTable (columns : List (List ℕ)) (rows : List (List (Option Term))) : Type 0 where
  pub names : AreDistinct columns
  pub rows_fit : AllByRecursion (λ row. (length row ≡ length columns) × AreValues row) rows

abbrev pub JsonTellsRows : Type 0
JsonTellsRows = (columns others : List (List ℕ)) (rows more : List (List (Option Term))) → IsTable columns rows → IsTable others more
    → json_selection columns rows ≡ json_selection others more → (columns ≡ others) × (rows ≡ more)
