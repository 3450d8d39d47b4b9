-- The standards' own examples of results: each row of the one that CSV and TSV share, and those of JSON (SPARQL 1.1 Query Results CSV and TSV Formats,
-- sections 3 and 4; SPARQL 1.1 Query Results JSON Format, sections 2 and 3).
use Rattle.std.specs.Prelude.{◌≡◌, ℕ, true, false, List, [], ◌∷◌, codes, Option, Some, None}
use Rattle.rdf_terms.specs.Literal.{tagged, xsd_string}
use Rattle.rdf_terms.specs.Vocabulary.{xsd_integer}
use Rattle.rdf_terms.specs.declared.term.Term.{Term}
use Rattle.rdf_terms.specs.declared.term.Term.TheVariants.{Blank, Iri, Literal}
use Rattle.sparql_results.specs.CsvText.{csv_header, csv_row, csv_selection}
use Rattle.sparql_results.specs.JsonText.{json_boolean, json_selection, json_term}
use Rattle.sparql_results.specs.ResultsText.{boolean_text, header_text, row_text, selection_text}

abbrev pub columns : List (List ℕ)
columns = codes "x" ∷ codes "literal" ∷ []

abbrev pub row : Option Term → Option Term → List (Option Term)
row x value = x ∷ value ∷ []

abbrev pub x : Option Term
x = Some (Iri (codes "http://example/x"))

abbrev pub text : List ℕ → Option Term
text lexical = Some (Literal (record { lexical = lexical; datatype = xsd_string; tag = None }))

abbrev pub in_english : List ℕ → Option Term
in_english lexical = Some (Literal (tagged lexical (codes "en")))

abbrev pub one_two_three : Option Term
one_two_three = Some (Literal (record { lexical = codes "123"; datatype = xsd_integer; tag = None }))

-- a term is its canonical text, the integer and the blank nodes too
pub record TsvTable : Type 0 where
  pub header : header_text columns ≡ codes "?x\t?literal\n"
  pub string : row_text (row x (text (codes "String"))) ≡ codes "<http://example/x>\t\"String\"\n"
  pub quote : row_text (row x (text (codes "String-with-dquote\""))) ≡ codes "<http://example/x>\t\"String-with-dquote\\\"\"\n"
  pub blank : row_text (row (Some (Blank 0)) (text (codes "Blank node"))) ≡ codes "_:b0\t\"Blank node\"\n"
  pub missing : row_text (row None (text (codes "Missing 'x'"))) ≡ codes "\t\"Missing 'x'\"\n"
  pub nothing : row_text (row None None) ≡ codes "\t\n"
  pub half : row_text (row x None) ≡ codes "<http://example/x>\t\n"
  pub tag : row_text (row (Some (Blank 1)) (in_english (codes "String-with-lang"))) ≡ codes "_:b1\t\"String-with-lang\"@en\n"
  pub typed : row_text (row (Some (Blank 1)) one_two_three) ≡ codes "_:b1\t\"123\"^^<http://www.w3.org/2001/XMLSchema#integer>\n"
  -- the columns first, then the rows in their order
  pub whole :
      selection_text columns (row x (text (codes "String")) ∷ row None None ∷ []) ≡ codes "?x\t?literal\n<http://example/x>\t\"String\"\n\t\n"
  pub yes : boolean_text true ≡ codes "true\n"
  pub no : boolean_text false ≡ codes "false\n"

pub record CsvTable : Type 0 where
  pub header : csv_header columns ≡ codes "x,literal\r\n"
  pub string : csv_row (row x (text (codes "String"))) ≡ codes "http://example/x,String\r\n"
  pub quote : csv_row (row x (text (codes "String-with-dquote\""))) ≡ codes "http://example/x,\"String-with-dquote\"\"\"\r\n"
  pub blank : csv_row (row (Some (Blank 0)) (text (codes "Blank node"))) ≡ codes "_:b0,Blank node\r\n"
  pub missing : csv_row (row None (text (codes "Missing 'x'"))) ≡ codes ",Missing 'x'\r\n"
  pub nothing : csv_row (row None None) ≡ codes ",\r\n"
  pub half : csv_row (row x None) ≡ codes "http://example/x,\r\n"
  pub tag : csv_row (row (Some (Blank 1)) (in_english (codes "String-with-lang"))) ≡ codes "_:b1,String-with-lang\r\n"
  pub typed : csv_row (row (Some (Blank 1)) one_two_three) ≡ codes "_:b1,123\r\n"
  -- a comma, and a line end (RFC 4180, section 2)
  pub comma : csv_row (row None (text (codes "a,b"))) ≡ codes ",\"a,b\"\r\n"
  pub line_end : csv_row (row None (text (codes "a\nb"))) ≡ codes ",\"a\nb\"\r\n"
  pub whole : csv_selection columns (row x (text (codes "String")) ∷ row None None ∷ []) ≡ codes "x,literal\r\nhttp://example/x,String\r\n,\r\n"

-- without white space but for the line ends before rows
pub record JsonTable : Type 0 where
  -- one row of the first example, and its variables
  pub book :
      json_selection (codes "book" ∷ codes "title" ∷ [])
      (row (Some (Iri (codes "http://example.org/book/book6"))) (text (codes "Harry Potter and the Half-Blood Prince")) ∷ [])
      ≡ codes "{\"head\":{\"vars\":[\"book\",\"title\"]},\"results\":{\"bindings\":[\n{\"book\":{\"type\":\"uri\",\"value\":\"http://example.org/book/book6\"},\"title\":{\"type\":\"literal\",\"value\":\"Harry Potter and the Half-Blood Prince\"}}\n]}}\n"
  -- rows in their order, a comma between two, and of a row the variables that it binds
  pub rows :
      json_selection columns (row x None ∷ row None (text (codes "a")) ∷ [])
      ≡ codes "{\"head\":{\"vars\":[\"x\",\"literal\"]},\"results\":{\"bindings\":[\n{\"x\":{\"type\":\"uri\",\"value\":\"http://example/x\"}},\n{\"literal\":{\"type\":\"literal\",\"value\":\"a\"}}\n]}}\n"
  pub none : json_selection [] [] ≡ codes "{\"head\":{\"vars\":[]},\"results\":{\"bindings\":[\n]}}\n"
  -- how terms are written
  pub blank : json_term (Blank 1) ≡ codes "{\"type\":\"bnode\",\"value\":\"b1\"}"
  pub tag : json_term (Literal (tagged (codes "Bob") (codes "en"))) ≡ codes "{\"type\":\"literal\",\"value\":\"Bob\",\"xml:lang\":\"en\"}"
  pub typed :
      json_term (Literal (record { lexical = codes "123"; datatype = xsd_integer; tag = None }))
      ≡ codes "{\"type\":\"literal\",\"value\":\"123\",\"datatype\":\"http://www.w3.org/2001/XMLSchema#integer\"}"
  -- ASK
  pub yes : json_boolean true ≡ codes "{\"head\":{},\"boolean\":true}\n"
  pub no : json_boolean false ≡ codes "{\"head\":{},\"boolean\":false}\n"
