-- Examples of the public standards, and what the definitions make of them.
use Rattle.std.specs.Prelude.{◌≡◌, IsTrue, ℕ, true, false, List, [], ◌∷◌, codes, None, Some}
use Rattle.rdf_terms.specs.Characters.{is_pn_chars_base, is_pn_chars_u, is_pn_chars, short_escape}
use Rattle.rdf_terms.specs.Cuts.{number_sign, colon, question_mark, before, after, up_to_slash}
use Rattle.rdf_terms.specs.Dots.{is_dot_segment, segments, with_slashes, undotted}
use Rattle.rdf_terms.specs.Escapes.{IsNumericEscape, IsShortEscape, IsCharacter, Writes}
use Rattle.rdf_terms.specs.Iri.{has_scheme, has_forbidden, is_iri}
use Rattle.rdf_terms.specs.Literal.{LiteralParts, is_tag, is_literal, tagged, xsd_string}
use Rattle.rdf_terms.specs.Quad.{QuadParts, has_right_kinds, is_quad}
use Rattle.rdf_terms.specs.Quoted.{IsIriRef, IsQuoted}
use Rattle.rdf_terms.specs.Reading.{escape_at, iri_at, quoted_at}
use Rattle.rdf_terms.specs.ReadingLaws.{StandsAt}
use Rattle.rdf_terms.specs.Reference.{IsBase}
use Rattle.rdf_terms.specs.Rewriting.{step_input, step_output}
use Rattle.rdf_terms.specs.Term.{is_term}
use Rattle.rdf_terms.specs.TermText.{term_text}
use Rattle.rdf_terms.specs.declared.quad.GraphName.TheVariants.{Default, Named}
use Rattle.rdf_terms.specs.declared.term.Term.TheVariants.{Blank, Iri, Literal}

-- letters, and the multiplication sign, which is none; `_`; the middle dot, which names go on with (Turtle 1.1, section 6.5: PN_CHARS)
abbrev pub CharacterExamples : Type 0
CharacterExamples = (is_pn_chars_base 0xE9 ≡ true) × (is_pn_chars_base 0xD7 ≡ false) × (is_pn_chars_u 95 ≡ true) × (is_pn_chars 0xB7 ≡ true)

-- `\t` is U+0009, `\"` is U+0022, and `\x` is no escape (Turtle 1.1, section 6.4)
abbrev pub ShortEscapeExamples : Type 0
ShortEscapeExamples = (short_escape 116 ≡ Some 9) × (short_escape 34 ≡ Some 34) × (short_escape 120 ≡ None)

-- RFC 3986, section 3
abbrev pub example_uri : List ℕ
example_uri = codes "foo://example.com:8042/over/there?name=ferret#nose"

abbrev pub CutExamples : Type 0
CutExamples =
    (before colon example_uri ≡ codes "foo") × (after number_sign example_uri ≡ Some (codes "nose")) × (after question_mark (codes "urn:example:animal:ferret:nose") ≡ None)
    × (up_to_slash (codes "/over/there") ≡ codes "/over/")

-- a path of RFC 3986, section 5.2.4, as segments, a path without its leading dot segments, and what a dot segment is (section 3.3)
abbrev pub DotExamples : Type 0
DotExamples =
    (with_slashes (segments (codes "mid/content=5/../6")) ≡ codes "mid" ∷ codes "/content=5" ∷ codes "/.." ∷ codes "/6" ∷ [])
    × (with_slashes (undotted (segments (codes "../a/./g"))) ≡ codes "a" ∷ codes "/." ∷ codes "/g" ∷ [])
    × (is_dot_segment (codes "..") ≡ true) × (is_dot_segment (codes "...") ≡ false)

-- `\u0041` and `\U00000041` write `A`, `\t` a tab (Turtle 1.1, section 6.4)
abbrev pub EscapeExamples : Type 0
EscapeExamples =
    IsNumericEscape (codes "\\u0041") 65 × IsNumericEscape (codes "\\U00000041") 65 × IsShortEscape (codes "\\t") 9
    × Writes IsCharacter (codes "a\\tb") (97 ∷ 9 ∷ 98 ∷ [])

-- RFC 3986, sections 1.1.2 and 4.2; N-Triples, section 7: IRIREF
abbrev pub IriExamples : Type 0
IriExamples =
    (has_scheme (codes "tel:+1-816-555-1212") ≡ true) × (has_scheme (codes "mailto:John.Doe@example.com") ≡ true) × (has_scheme (codes "./this:that") ≡ false)
    × (has_forbidden (codes "http://example/ space") ≡ true) × IsTrue (is_iri example_uri) × (is_iri (codes "//g") ≡ false)

-- a literal of the first example of RDF 1.1 N-Quads, and one of Turtle 1.1, section 2.5.1
abbrev pub plain_text : LiteralParts
plain_text = record { lexical = codes "object1"; datatype = xsd_string; tag = None }

abbrev pub tagged_text : LiteralParts
tagged_text = tagged (codes "That Seventies Show") (codes "en")

-- a tag is kept in lower case, and stands beside rdf:langString alone
abbrev pub LiteralExamples : Type 0
LiteralExamples =
    (is_tag (codes "fr-be") ≡ true) × (is_tag (codes "1a") ≡ false) × (is_tag (codes "fr-") ≡ false) × (tagged (codes "That Seventies Show") (codes "EN") ≡ tagged_text)
    × IsTrue (is_literal plain_text) × IsTrue (is_literal tagged_text) × (is_literal (record plain_text { tag = Some (codes "en") }) ≡ false)

-- an IRI with no scheme is no term
abbrev pub TermExamples : Type 0
TermExamples = IsTrue (is_term (Blank 1)) × IsTrue (is_term (Literal plain_text)) × (is_term (Iri (codes "//g")) ≡ false)

-- a statement of that example: `_:subject1 <http://an.example/predicate1> "object1" <http://example.org/graph1> .`
abbrev pub example_quad : QuadParts
example_quad =
    record { graph = Named (Iri (codes "http://example.org/graph1")); subject = Blank 1; predicate = Iri (codes "http://an.example/predicate1"); object = Literal plain_text }

-- a subject is no literal, a predicate an IRI alone, a graph's name no literal (RDF 1.1 Concepts, sections 3.1 and 4)
abbrev pub QuadExamples : Type 0
QuadExamples =
    IsTrue (is_quad example_quad) × IsTrue (is_quad (record example_quad { graph = Default }))
    × (has_right_kinds (record example_quad { subject = Literal plain_text }) ≡ false) × (has_right_kinds (record example_quad { predicate = Blank 2 }) ≡ false)
    × (has_right_kinds (record example_quad { graph = Named (Literal plain_text) }) ≡ false)

-- `%66` in an IRI is no escape and stays (Turtle 1.1, section 6.4); a quoted string ends at the first quote without a backslash
abbrev pub ReadingExamples : Type 0
ReadingExamples =
    (escape_at (codes "u0041.") ≡ Some (65, codes ".")) × (escape_at (codes "uD800") ≡ None)
    × (iri_at (codes "<http://a.example/%66oo-bar> .") ≡ Some (codes "http://a.example/%66oo-bar", codes " ."))
    × (iri_at (codes "<http://example/\\u0020>") ≡ None)
    × (quoted_at 34 (codes "\"a\\\"b\"@en") ≡ Some (codes "a\"b", codes "@en"))

-- the same as slices of a text (Turtle 1.1, section 6.5: IRIREF, STRING_LITERAL_QUOTE, STRING_LITERAL_SINGLE_QUOTE)
abbrev pub QuotedExamples : Type 0
QuotedExamples =
    StandsAt IsIriRef (codes "<http://a.example/\\u0053> .") (codes "http://a.example/S") (codes " .")
    × StandsAt (IsQuoted 34) (codes "\"That Seventies Show\"@en") (codes "That Seventies Show") (codes "@en")
    × StandsAt (IsQuoted 39) (codes "'x''") (codes "x") (codes "'")

-- RFC 3986, section 3 (its two examples), and appendix B
abbrev pub ReferenceExamples : Type 0
ReferenceExamples =
    IsBase example_uri (codes "foo")
    (record { authority = Some (codes "example.com:8042"); path = codes "/over/there"; query = Some (codes "name=ferret"); fragment = Some (codes "nose") })
    × IsBase (codes "urn:example:animal:ferret:nose") (codes "urn") (record { authority = None; path = codes "example:animal:ferret:nose"; query = None; fragment = None })
    × IsBase (codes "http://www.ics.uci.edu/pub/ietf/uri/#Related") (codes "http")
    (record { authority = Some (codes "www.ics.uci.edu"); path = codes "/pub/ietf/uri/"; query = None; fragment = Some (codes "Related") })

-- the steps 2E, 2B and 2C of RFC 3986, section 5.2.4, on its first example
abbrev pub RewritingExamples : Type 0
RewritingExamples =
    (step_input (codes "/a/b/c/./../../g") ≡ codes "/b/c/./../../g") × (step_output (codes "/a/b/c/./../../g") [] ≡ codes "/a")
    × (step_input (codes "/./../../g") ≡ codes "/../../g") × (step_output (codes "/../../g") (codes "/a/b/c") ≡ codes "/a/b")

-- a blank node, an IRI, a plain string, a tagged one, another datatype, and escapes (RDF 1.1 N-Triples, section 4; Turtle 1.1, section 2.5)
abbrev pub TermTextExamples : Type 0
TermTextExamples =
    (term_text (Blank 7) ≡ codes "_:b7") × (term_text (Iri (codes "http://one.example/subject1")) ≡ codes "<http://one.example/subject1>")
    × (term_text (Literal plain_text) ≡ codes "\"object1\"") × (term_text (Literal tagged_text) ≡ codes "\"That Seventies Show\"@en")
    × (term_text (Literal (record plain_text { lexical = codes "2"; datatype = codes "http://www.w3.org/2001/XMLSchema#integer" }))
    ≡ codes "\"2\"^^<http://www.w3.org/2001/XMLSchema#integer>")
    × (term_text (Literal (record plain_text { lexical = codes "a\"\\\n" })) ≡ codes "\"a\\\"\\\\\\n\"")
