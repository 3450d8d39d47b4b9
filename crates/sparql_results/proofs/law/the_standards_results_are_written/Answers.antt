use Rattle.std.proofs.Common.{◌≡◌, ℕ, false, List, [], ◌++◌, codes, Option, Some, refl, ap, arith}
use Rattle.std.proofs.lemmas.Fmt.{decimal_digit}
use Rattle.std.specs.List.{flat_map}
use Rattle.rdf_terms.specs.declared.term.Term.{Term}
use Rattle.rdf_terms.specs.declared.term.Term.TheVariants.{Blank}
use Rattle.std.specs.Prelude.{decimal}
use Rattle.sparql_results.specs.CsvText.{csv_field, csv_row, plain_text}
use Rattle.sparql_results.specs.Examples.{in_english, one_two_three, row, text}
use Rattle.sparql_results.specs.JsonText.{json_string, json_term}
use Rattle.sparql_results.specs.ResultsText.{field_text, row_text, without_tab}
use Rattle.sparql_results.proofs.law.the_standards_results_are_written.Goals as goal

tsv_blank : (n : ℕ) (v : Option Term) (ds : List ℕ) → decimal n ≡ ds →
    row_text (row (Some (Blank n)) v) ≡ (flat_map without_tab (codes "_:b" ++ ds) ++ ((codes "\t" ++ field_text v) ++ [])) ++ codes "\n"
tsv_blank n v ds e = ap (λ (d : List ℕ). (flat_map without_tab (codes "_:b" ++ d) ++ ((codes "\t" ++ field_text v) ++ [])) ++ codes "\n") e

csv_blank : (n : ℕ) (v : Option Term) (ds : List ℕ) → decimal n ≡ ds →
    csv_row (row (Some (Blank n)) v) ≡ (csv_field false (codes "_:b" ++ ds) ++ ((codes "," ++ csv_field false (plain_text v)) ++ [])) ++ codes "\r\n"
csv_blank n v ds e =
    ap (λ (d : List ℕ). (csv_field false (codes "_:b" ++ d) ++ ((codes "," ++ csv_field false (plain_text v)) ++ [])) ++ codes "\r\n") e

json_blank : (n : ℕ) (ds : List ℕ) → decimal n ≡ ds →
    json_term (Blank n) ≡ codes "{\"type\":\"bnode\",\"value\":" ++ json_string (codes "b" ++ ds) ++ codes "}"
json_blank n ds e = ap (λ (d : List ℕ). codes "{\"type\":\"bnode\",\"value\":" ++ json_string (codes "b" ++ d) ++ codes "}") e

nought : decimal 0 ≡ codes "0"
nought = decimal_digit 0 (omega arith)

one : decimal 1 ≡ codes "1"
one = decimal_digit 1 (omega arith)

pub returns-clause-tsv : goal.returns-clause-tsv
returns-clause-tsv c = record {
  header = refl;
  string = refl;
  quote = refl;
  blank = tsv_blank 0 (text (codes "Blank node")) (codes "0") nought;
  missing = refl;
  nothing = refl;
  half = refl;
  tag = tsv_blank 1 (in_english (codes "String-with-lang")) (codes "1") one;
  typed = tsv_blank 1 one_two_three (codes "1") one;
  whole = refl;
  yes = refl;
  no = refl;
}

pub returns-clause-csv : goal.returns-clause-csv
returns-clause-csv c = record {
  header = refl;
  string = refl;
  quote = refl;
  blank = csv_blank 0 (text (codes "Blank node")) (codes "0") nought;
  missing = refl;
  nothing = refl;
  half = refl;
  tag = csv_blank 1 (in_english (codes "String-with-lang")) (codes "1") one;
  typed = csv_blank 1 one_two_three (codes "1") one;
  comma = refl;
  line_end = refl;
  whole = refl;
}

pub returns-clause-json : goal.returns-clause-json
returns-clause-json c = record {
  book = refl;
  rows = refl;
  none = refl;
  blank = json_blank 1 (codes "1") one;
  tag = refl;
  typed = refl;
  yes = refl;
  no = refl;
}
