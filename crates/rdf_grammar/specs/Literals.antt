-- The literals that are written, against a prologue (Turtle 1.1, section 2.5; SPARQL 1.1 Query, section 4.1.2).
use Rattle.std.specs.Prelude.{ℕ, Bool, true, false, List, Option, Some, None, if◌then◌else◌, codes}
use Rattle.std.specs.Option.{option_map}
use Rattle.std.specs.Str.{encode_utf8_all}
use Rattle.rdf_terms.specs.Literal.{LiteralParts, xsd_string, is_tag, tagged}
use Rattle.rdf_terms.specs.Vocabulary.{xsd_integer, xsd_decimal, xsd_double, xsd_boolean}
use Rattle.rdf_tokens.specs.Values.{text_value, tag_value}
use Rattle.rdf_grammar.specs.Prologue.{Prologue, iri_of, is_proper, knows}
use Rattle.rdf_grammar.specs.PrologueFaults.{Explains}
use Rattle.rdf_grammar.specs.declared.prologue.PrologueFault.{PrologueFault}
use Rattle.rdf_grammar.specs.declared.prologue.PrologueFault.TheVariants.{NoMemory}
use Rattle.rdf_grammar.specs.declared.tree.Literal.{Literal}
use Rattle.rdf_grammar.specs.declared.tree.Literal.TheVariants as l

abbrev pub untagged : List ℕ → List ℕ → LiteralParts
untagged lexical datatype = record { lexical = lexical; datatype = datatype; tag = None }

abbrev pub boolean_text : Bool → List ℕ
boolean_text true = codes "true"
boolean_text false = codes "false"

-- what a literal stands for; numbers keep their text
unfoldable pub literal_of : Literal → Prologue → Option LiteralParts
literal_of (l.Plain text) p = Some (untagged (text_value text) xsd_string)
literal_of (l.Tagged text tag) p = if is_tag (tag_value tag) then Some (tagged (text_value text) (tag_value tag)) else None
literal_of (l.Typed text name) p = option_map (untagged (text_value text)) (iri_of name p)
literal_of (l.Integer text) p = Some (untagged (encode_utf8_all text) xsd_integer)
literal_of (l.Decimal text) p = Some (untagged (encode_utf8_all text) xsd_decimal)
literal_of (l.Double text) p = Some (untagged (encode_utf8_all text) xsd_double)
literal_of (l.Boolean value word) p = Some (untagged (boolean_text value) xsd_boolean)

-- its tag is one, and the name of its datatype is whole
abbrev pub proper_literal : Literal → Bool
proper_literal (l.Tagged text tag) = is_tag (tag_value tag)
proper_literal (l.Typed text name) = is_proper name
proper_literal _ = true

-- the prefix of its datatype is one of these
abbrev pub known_literal : List (List ℕ) → Literal → Bool
known_literal prefixes (l.Typed text name) = knows prefixes name
known_literal prefixes _ = true

-- why it stands for nothing: its datatype has no IRI; want of memory tells nothing of it
abbrev pub ExplainsLiteral : Prologue → Literal → PrologueFault → Type 0
ExplainsLiteral p w (NoMemory e) = Unit {0}
ExplainsLiteral p (l.Typed text name) fault = Explains p name fault
ExplainsLiteral p _ fault = ⊥
