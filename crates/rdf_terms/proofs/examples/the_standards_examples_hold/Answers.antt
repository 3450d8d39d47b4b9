use Rattle.std.proofs.Common.{◌≡◌, Bool, true, false, ◌&&◌, IsTrue, [], ◌∷◌, ◌++◌, codes, refl, ap, inl, inr, rules, arith}
use Rattle.std.specs.Str.{is_utf8}
use Rattle.std.proofs.lemmas.Bool.{and_from, and_right}
use Rattle.std.proofs.lemmas.Fmt.{decimal_digit}
use Rattle.rdf_terms.specs.Characters.{is_pn_chars_base, is_pn_chars_u, is_pn_chars, short_escape}
use Rattle.rdf_terms.specs.Reading.{hex_at, hex4_at, scalar_only, numeric_at, escape_at, allowed_only, expect, iri_character_at, string_character_at, up_to, iri_body_at, iri_at, quoted_body_at, quoted_at}
use Rattle.rdf_terms.specs.Rewriting.{step_input, step_output}
use Rattle.rdf_terms.proofs.CutLemmas.{before_lacks_mark}
use Rattle.rdf_terms.proofs.QuotedLemmas.{iri_sound, quoted_sound}
use Rattle.rdf_terms.proofs.ReferenceLemmas.{components_there}
use lib.Utf8.{encode}
use Rattle.rdf_terms.specs.Examples.{example_uri, plain_text, tagged_text}
use Rattle.rdf_terms.specs.Iri.{is_iri}
use Rattle.rdf_terms.specs.Literal.{is_literal, lang_string, xsd_string}
use Rattle.rdf_terms.proofs.ExampleLemmas.{ascii_iri, ascii_literal}
use Rattle.rdf_terms.proofs.examples.the_standards_examples_hold.Goals as goal

pub returns-clause-characters : goal.returns-clause-characters
unfolding is_pn_chars_base is_pn_chars_u is_pn_chars
returns-clause-characters c = (refl, refl, refl, refl)

pub returns-clause-short_escapes : goal.returns-clause-short_escapes
unfolding short_escape
returns-clause-short_escapes c = (refl, refl, refl)

pub returns-clause-cuts : goal.returns-clause-cuts
returns-clause-cuts c = (refl, refl, refl, refl)

pub returns-clause-dots : goal.returns-clause-dots
returns-clause-dots c = (refl, refl, refl, refl)

pub returns-clause-escapes : goal.returns-clause-escapes
unfolding short_escape
returns-clause-escapes c = (
  record { digits = codes "0041"; hex = search rules; form = inl (refl, refl); value = refl; scalar = refl },
  record { digits = codes "00000041"; hex = search rules; form = inr (refl, refl); value = refl; scalar = refl },
  (116, refl, refl),
  (97 ∷ [], codes "\\tb", refl, inl (refl, search rules), (codes "\\t", codes "b", refl, inr (inr (116, refl, refl)), (codes "b", [], refl, inl (refl, search rules), refl))),
)

pub returns-clause-iris : goal.returns-clause-iris
returns-clause-iris c = (refl, refl, refl, refl, ascii_iri example_uri refl refl refl, and_right (is_utf8 (codes "//g")) false refl)

plain_is_literal : IsTrue (is_literal plain_text)
plain_is_literal = ascii_literal plain_text refl (ascii_iri xsd_string refl refl refl) refl

pub returns-clause-literals : goal.returns-clause-literals
returns-clause-literals c = (
  refl,
  refl,
  refl,
  refl,
  plain_is_literal,
  ascii_literal tagged_text refl (ascii_iri lang_string refl refl refl) refl,
  and_right (is_utf8 (codes "object1")) (is_iri xsd_string && false) (and_right (is_iri xsd_string) false refl),
)

pub returns-clause-terms : goal.returns-clause-terms
returns-clause-terms c = (refl, plain_is_literal, and_right (is_utf8 (codes "//g")) false refl)

-- a quad whose graph, subject and predicate are terms, with the plain text as its object
with_object : (graph subject predicate : Bool) → graph ≡ true → subject ≡ true → predicate ≡ true
    → IsTrue (true && (graph && (subject && (predicate && is_literal plain_text))))
with_object graph subject predicate g s p =
    and_from true _ refl (and_from graph _ g (and_from subject _ s (and_from predicate _ p plain_is_literal)))

predicate_is_iri : IsTrue (is_iri (codes "http://an.example/predicate1"))
predicate_is_iri = ascii_iri (codes "http://an.example/predicate1") refl refl refl

pub returns-clause-quads : goal.returns-clause-quads
returns-clause-quads c = (
  with_object (is_iri (codes "http://example.org/graph1")) true (is_iri (codes "http://an.example/predicate1")) (ascii_iri (codes "http://example.org/graph1") refl refl refl) refl predicate_is_iri,
  with_object true true (is_iri (codes "http://an.example/predicate1")) refl refl predicate_is_iri,
  refl,
  refl,
  refl,
)

pub returns-clause-reading : goal.returns-clause-reading
unfolding hex_at hex4_at scalar_only numeric_at short_escape escape_at allowed_only expect iri_character_at string_character_at up_to iri_body_at iri_at quoted_body_at quoted_at encode
returns-clause-reading c = (refl, refl, refl, refl, refl)

pub returns-clause-quoted : goal.returns-clause-quoted
unfolding hex_at hex4_at scalar_only numeric_at short_escape escape_at allowed_only expect iri_character_at string_character_at up_to iri_body_at iri_at quoted_body_at quoted_at encode
returns-clause-quoted c = (
  iri_sound (codes "<http://a.example/\\u0053> .") (codes "http://a.example/S") (codes " .") refl,
  quoted_sound 34 (search rules) (codes "\"That Seventies Show\"@en") (codes "That Seventies Show") (codes "@en") refl,
  quoted_sound 39 (search rules) (codes "'x''") (codes "x") (codes "'") refl,
)

pub returns-clause-references : goal.returns-clause-references
returns-clause-references c = (
  (codes "//example.com:8042/over/there?name=ferret#nose", refl, before_lacks_mark 58 example_uri, components_there (codes "//example.com:8042/over/there?name=ferret#nose")),
  (codes "example:animal:ferret:nose", refl, before_lacks_mark 58 (codes "urn:example:animal:ferret:nose"), components_there (codes "example:animal:ferret:nose")),
  (codes "//www.ics.uci.edu/pub/ietf/uri/#Related", refl, before_lacks_mark 58 (codes "http://www.ics.uci.edu/pub/ietf/uri/#Related"), components_there (codes "//www.ics.uci.edu/pub/ietf/uri/#Related")),
)

pub returns-clause-rewriting : goal.returns-clause-rewriting
unfolding step_input step_output
returns-clause-rewriting c = (refl, refl, refl, refl)

pub returns-clause-term_texts : goal.returns-clause-term_texts
returns-clause-term_texts c = (ap (λ digits. codes "_:b" ++ digits) (decimal_digit 7 (omega arith)), refl, refl, refl, refl, refl)
