-- What a literal is (RDF 1.1 Concepts, section 3.3).
use Rattle.std.specs.Prelude.{ℕ, Bool, true, ◌&&◌, ◌==◌, not, nat_eq, List, nat_lt, length, codes, Option, None, Some}
use Rattle.std.specs.List.{list_all, list_any, slice_split, take_while}
use Rattle.std.specs.Str.{str_to_ascii_lowercase, is_utf8}
use Rattle.std.specs.Char.{is_ascii_alphabetic, is_ascii_alphanumeric, is_ascii_uppercase}
use Rattle.std.specs.Cmp.Lexicographic.{pointwise}
use Rattle.rdf_terms.specs.Iri.{is_iri}

-- a lexical form, a datatype IRI, and perhaps a language tag
pub record LiteralParts : Type 0 where
  pub lexical : List ℕ
  pub datatype : List ℕ
  pub tag : Option (List ℕ)

abbrev pub xsd_string : List ℕ
xsd_string = codes "http://www.w3.org/2001/XMLSchema#string"

abbrev pub lang_string : List ℕ
lang_string = codes "http://www.w3.org/1999/02/22-rdf-syntax-ns#langString"

-- letters and digits, and at least one
abbrev pub is_subtag : List ℕ → Bool
is_subtag text = nat_lt 0 (length text) && list_all is_ascii_alphanumeric text

-- the form of a language tag, without its `@`: subtags with a `-` between them, the first of letters alone
-- (N-Triples, section 7, LANGTAG)
abbrev pub is_tag : List ℕ → Bool
is_tag text = list_all is_subtag (slice_split (λ c. c == 45) text) && list_all is_ascii_alphabetic (take_while (λ c. not (c == 45)) text)

-- a tag has no capitals, and stands beside rdf:langString alone
abbrev pub tag_fits : List ℕ → Option (List ℕ) → Bool
tag_fits datatype None = true
tag_fits datatype (Some tag) = pointwise nat_eq datatype lang_string && is_tag tag && not (list_any is_ascii_uppercase tag)

-- the lexical form is a text of Unicode characters, the datatype is an IRI, and the tag fits it
abbrev pub is_literal : LiteralParts → Bool
is_literal l = is_utf8 l.lexical && (is_iri l.datatype && tag_fits l.datatype l.tag)

-- the literal with this tag, its capitals lowered
abbrev pub tagged : List ℕ → List ℕ → LiteralParts
tagged lexical tag = record { lexical = lexical; datatype = lang_string; tag = Some (str_to_ascii_lowercase tag) }
