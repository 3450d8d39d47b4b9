-- A selection in each format is written part by part.
use Rattle.std.proofs.Common.{refl, sym, [], ◌∷◌, ◌++◌, append-nil}
use Rattle.std.specs.List.{flat_map}
use Rattle.sparql_results.specs.CsvText.{csv_header, csv_row}
use Rattle.sparql_results.specs.Formats.{SelectionsHaveParts}
use Rattle.sparql_results.specs.ResultsText.{header_text, row_text}
use Rattle.sparql_results.specs.declared.format.ResultsFormat.TheVariants.{Csv, Json, Tsv}

pub selections_have_parts : SelectionsHaveParts
selections_have_parts Tsv columns [] = sym (append-nil (header_text columns ++ []))
selections_have_parts Tsv columns (row ∷ rows) = sym (append-nil (header_text columns ++ flat_map row_text (row ∷ rows)))
selections_have_parts Csv columns [] = sym (append-nil (csv_header columns ++ []))
selections_have_parts Csv columns (row ∷ rows) = sym (append-nil (csv_header columns ++ flat_map csv_row (row ∷ rows)))
selections_have_parts Json columns [] = refl
selections_have_parts Json columns (row ∷ rows) = refl
