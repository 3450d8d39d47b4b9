-- The text of a query's results: tab-separated values (SPARQL 1.1 Query Results CSV and TSV Formats, section 4), whose terms stand
-- in canonical N-Triples (RDF 1.1 N-Triples, section 4).
use Rattle.std.specs.Prelude.{ℕ, Bool, true, false, ◌==◌, if◌then◌else◌, List, [], ◌∷◌, ◌++◌, codes, Option, Some, None}
use Rattle.std.specs.List.{flat_map, join_by}
use Rattle.rdf_terms.specs.TermText.{term_text}
use Rattle.rdf_terms.specs.declared.term.Term.{Term}

-- a byte of a term's text: a tab is written as `\t`
abbrev pub without_tab : ℕ → List ℕ
without_tab c = if c == 9 then codes "\\t" else c ∷ []

-- the field of a value: the text of a term, or nothing where the variable is unbound
abbrev pub field_text : Option Term → List ℕ
field_text None = []
field_text (Some term) = flat_map without_tab (term_text term)

-- the field of a column: the name of its variable behind `?`
abbrev pub column_text : List ℕ → List ℕ
column_text name = codes "?" ++ name

-- the columns, then a row: a tab between two fields, and LF behind the last
abbrev pub header_text : List (List ℕ) → List ℕ
header_text columns = join_by column_text (codes "\t") columns ++ codes "\n"

abbrev pub row_text : List (Option Term) → List ℕ
row_text values = join_by field_text (codes "\t") values ++ codes "\n"

-- what SELECT prints
abbrev pub selection_text : List (List ℕ) → List (List (Option Term)) → List ℕ
selection_text columns rows = header_text columns ++ flat_map row_text rows

-- what ASK prints
abbrev pub boolean_text : Bool → List ℕ
boolean_text true = codes "true\n"
boolean_text false = codes "false\n"
