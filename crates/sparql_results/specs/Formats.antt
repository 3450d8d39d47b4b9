-- The text of a selection in each format.
use Rattle.std.specs.Prelude.{◌≡◌, ℕ, Bool, true, false, List, [], ◌∷◌, ◌++◌, Option}
use Rattle.std.specs.List.{flat_map}
use Rattle.rdf_terms.specs.declared.term.Term.{Term}
use Rattle.sparql_results.specs.CsvText.{csv_header, csv_row, csv_selection}
use Rattle.sparql_results.specs.JsonText.{json_boolean, json_end, json_header, json_row, json_selection}
use Rattle.sparql_results.specs.ResultsText.{boolean_text, header_text, row_text, selection_text}
use Rattle.sparql_results.specs.declared.format.ResultsFormat.{ResultsFormat}
use Rattle.sparql_results.specs.declared.format.ResultsFormat.TheVariants.{Csv, Json, Tsv}

-- what SELECT prints
abbrev pub selection_in : ResultsFormat → List (List ℕ) → List (List (Option Term)) → List ℕ
selection_in Tsv columns rows = selection_text columns rows
selection_in Csv columns rows = csv_selection columns rows
selection_in Json columns rows = json_selection columns rows

-- what ASK prints; the formats of values have no text of a truth, so its word stands alone there
abbrev pub truth_in : ResultsFormat → Bool → List ℕ
truth_in Tsv truth = boolean_text truth
truth_in Csv truth = boolean_text truth
truth_in Json truth = json_boolean truth

-- ---- its parts of a selection: what stands before the rows, a row, and what stands behind them

abbrev pub header_in : ResultsFormat → List (List ℕ) → List ℕ
header_in Tsv columns = header_text columns
header_in Csv columns = csv_header columns
header_in Json columns = json_header columns

abbrev pub row_in : ResultsFormat → Bool → List (List ℕ) → List (Option Term) → List ℕ
row_in Tsv is_first columns values = row_text values
row_in Csv is_first columns values = csv_row values
row_in Json is_first columns values = json_row is_first columns values

abbrev pub end_in : ResultsFormat → List ℕ
end_in Tsv = []
end_in Csv = []
end_in Json = json_end

-- the first row, then the others
abbrev pub rows_in : ResultsFormat → List (List ℕ) → List (List (Option Term)) → List ℕ
rows_in format columns [] = []
rows_in format columns (row ∷ rows) = row_in format true columns row ++ flat_map (row_in format false columns) rows

-- A selection is written part by part.
abbrev pub SelectionsHaveParts : Type 0
SelectionsHaveParts = (format : ResultsFormat) (columns : List (List ℕ)) (rows : List (List (Option Term)))
    → selection_in format columns rows ≡ header_in format columns ++ rows_in format columns rows ++ end_in format
