-- The IRIs of RDF's and XML Schema's vocabularies that the short forms of Turtle and SPARQL stand for (Turtle 1.1, sections 2.4,
-- 2.5 and 2.8; RDF Schema 1.1, sections 3.1 and 5.2; RDF 1.1 Concepts, section 5.1).
use Rattle.std.specs.Prelude.{ℕ, List, codes}

abbrev pub rdf_type : List ℕ
rdf_type = codes "http://www.w3.org/1999/02/22-rdf-syntax-ns#type"

abbrev pub rdf_first : List ℕ
rdf_first = codes "http://www.w3.org/1999/02/22-rdf-syntax-ns#first"

abbrev pub rdf_rest : List ℕ
rdf_rest = codes "http://www.w3.org/1999/02/22-rdf-syntax-ns#rest"

abbrev pub rdf_nil : List ℕ
rdf_nil = codes "http://www.w3.org/1999/02/22-rdf-syntax-ns#nil"

abbrev pub xsd_integer : List ℕ
xsd_integer = codes "http://www.w3.org/2001/XMLSchema#integer"

abbrev pub xsd_decimal : List ℕ
xsd_decimal = codes "http://www.w3.org/2001/XMLSchema#decimal"

abbrev pub xsd_double : List ℕ
xsd_double = codes "http://www.w3.org/2001/XMLSchema#double"

abbrev pub xsd_boolean : List ℕ
xsd_boolean = codes "http://www.w3.org/2001/XMLSchema#boolean"
