-- The text of a selection: comma-separated values (SPARQL 1.1 Query Results CSV and TSV Formats, section 3; RFC 4180). It has the
-- strings of terms, and not of which kind they are.
use Rattle.std.specs.Prelude.{ℕ, Bool, ◌==◌, ◌||◌, ◌&&◌, if◌then◌else◌, List, [], ◌∷◌, ◌++◌, codes, decimal, length, Option, Some, None}
use Rattle.std.specs.List.{flat_map, join_by, list_any}
use Rattle.rdf_terms.specs.declared.term.Term.{Term}
use Rattle.rdf_terms.specs.declared.term.Term.TheVariants.{Blank, Iri, Literal}

-- ---- records (RFC 4180, section 2)

abbrev pub is_special : ℕ → Bool
is_special c = (c == 34) || (c == 44) || (c == 13) || (c == 10)

-- A field with a quote, a comma, CR or LF in it stands between quotes. So does an empty field that is alone in its record, since many
-- readers pass over an empty line.
abbrev pub needs_quotes : Bool → List ℕ → Bool
needs_quotes is_alone text = (is_alone && (length text == 0)) || list_any is_special text

-- between quotes a quote is written twice
abbrev pub doubled : ℕ → List ℕ
doubled c = if c == 34 then codes "\"\"" else c ∷ []

abbrev pub csv_field : Bool → List ℕ → List ℕ
csv_field is_alone text = if needs_quotes is_alone text then codes "\"" ++ flat_map doubled text ++ codes "\"" else text

-- the record of some items by their texts: a comma between two fields, and CR LF behind the last
abbrev pub csv_record : {X : Type 0} → (X → List ℕ) → List X → List ℕ
csv_record text items = join_by (λ item. csv_field (length items == 1) (text item)) (codes ",") items ++ codes "\r\n"

-- ---- results

-- the string of a value: an IRI, the lexical form of a literal, `_:b` and the number of a blank node; nothing where the variable is
-- unbound
abbrev pub plain_text : Option Term → List ℕ
plain_text None = []
plain_text (Some (Blank number)) = codes "_:b" ++ decimal number
plain_text (Some (Iri iri)) = iri
plain_text (Some (Literal l)) = l.lexical

-- the names of the variables, then a row
abbrev pub csv_header : List (List ℕ) → List ℕ
csv_header columns = csv_record (λ name. name) columns

abbrev pub csv_row : List (Option Term) → List ℕ
csv_row values = csv_record plain_text values

-- what SELECT prints
abbrev pub csv_selection : List (List ℕ) → List (List (Option Term)) → List ℕ
csv_selection columns rows = csv_header columns ++ flat_map csv_row rows
