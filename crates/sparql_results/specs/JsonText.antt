-- The text of a query's results in JSON (SPARQL 1.1 Query Results JSON Format; RFC 8259), one row a line.
use Rattle.std.specs.Prelude.{ℕ, Bool, true, false, ◌==◌, ◌/◌, ◌%◌, nat_lt, nat_eq, if◌then◌else◌, List, [], ◌∷◌, ◌++◌, codes, decimal, zip, Option, Some, None}
use Rattle.std.specs.Char.{digit_char}
use Rattle.std.specs.List.{flat_map, join_by}
use Rattle.std.specs.Cmp.Lexicographic.{pointwise}
use Rattle.rdf_terms.specs.Literal.{LiteralParts, xsd_string}
use Rattle.rdf_terms.specs.declared.term.Term.{Term}
use Rattle.rdf_terms.specs.declared.term.Term.TheVariants.{Blank, Iri, Literal}

-- ---- strings (RFC 8259, section 7)

-- a byte of a string: the quote, the backslash and what is below U+0020 are escaped, by a letter where there is one
abbrev pub json_byte : ℕ → List ℕ
json_byte c =
    if c == 34 then codes "\\\"" else
    if c == 92 then codes "\\\\" else
    if c == 8 then codes "\\b" else
    if c == 9 then codes "\\t" else
    if c == 10 then codes "\\n" else
    if c == 12 then codes "\\f" else
    if c == 13 then codes "\\r" else
    if nat_lt c 32 then codes "\\u00" ++ digit_char (c / 16) ∷ digit_char (c % 16) ∷ [] else c ∷ []

abbrev pub json_string : List ℕ → List ℕ
json_string text = codes "\"" ++ flat_map json_byte text ++ codes "\""

-- ---- terms

-- xsd:string is not written
abbrev pub json_datatype : List ℕ → List ℕ
json_datatype datatype = if pointwise nat_eq datatype xsd_string then [] else codes ",\"datatype\":" ++ json_string datatype

-- what a literal has besides its value: the tag, or else the datatype
abbrev pub json_suffix : List ℕ → Option (List ℕ) → List ℕ
json_suffix datatype (Some tag) = codes ",\"xml:lang\":" ++ json_string tag
json_suffix datatype None = json_datatype datatype

abbrev pub json_literal : LiteralParts → List ℕ
json_literal l = codes "{\"type\":\"literal\",\"value\":" ++ json_string l.lexical ++ json_suffix l.datatype l.tag ++ codes "}"

abbrev pub json_term : Term → List ℕ
json_term (Blank number) = codes "{\"type\":\"bnode\",\"value\":" ++ json_string (codes "b" ++ decimal number) ++ codes "}"
json_term (Iri iri) = codes "{\"type\":\"uri\",\"value\":" ++ json_string iri ++ codes "}"
json_term (Literal l) = json_literal l

-- ---- results

-- a variable that a row binds, with its term; an unbound one is left out
abbrev pub bound : List ℕ × Option Term → List (List ℕ × Term)
bound (name, Some term) = (name, term) ∷ []
bound (name, None) = []

abbrev pub json_member : List ℕ × Term → List ℕ
json_member (name, term) = json_string name ++ codes ":" ++ json_term term

abbrev pub json_solution : List (List ℕ) → List (Option Term) → List ℕ
json_solution columns values = codes "{" ++ join_by json_member (codes ",") (flat_map bound (zip columns values)) ++ codes "}"

-- the names of the variables, and what opens the list of rows
abbrev pub json_header : List (List ℕ) → List ℕ
json_header columns = codes "{\"head\":{\"vars\":[" ++ join_by json_string (codes ",") columns ++ codes "]},\"results\":{\"bindings\":["

-- a row on a line of its own; before each but the first a comma ends the line
abbrev pub json_row : Bool → List (List ℕ) → List (Option Term) → List ℕ
json_row is_first columns values = (if is_first then codes "\n" else codes ",\n") ++ json_solution columns values

abbrev pub json_rows : List (List ℕ) → List (List (Option Term)) → List ℕ
json_rows columns [] = []
json_rows columns (row ∷ rows) = json_row true columns row ++ flat_map (json_row false columns) rows

-- what closes the list of rows
abbrev pub json_end : List ℕ
json_end = codes "\n]}}\n"

-- what SELECT prints
abbrev pub json_selection : List (List ℕ) → List (List (Option Term)) → List ℕ
json_selection columns rows = json_header columns ++ json_rows columns rows ++ json_end

-- what ASK prints
abbrev pub json_boolean : Bool → List ℕ
json_boolean true = codes "{\"head\":{},\"boolean\":true}\n"
json_boolean false = codes "{\"head\":{},\"boolean\":false}\n"
