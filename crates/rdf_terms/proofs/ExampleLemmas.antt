-- The tests of texts, at examples in ASCII: UTF-8's own test doesn't compute.
use Rattle.std.proofs.Common.{◌≡◌, ℕ, true, false, ◌&&◌, List, [], ◌∷◌, IsTrue}
use Rattle.std.specs.List.{list_all}
use Rattle.std.specs.Char.{is_ascii}
use Rattle.std.specs.Str.{IsAscii, IsUtf8, is_utf8}
use Rattle.std.proofs.lemmas.Bool.{and_from, and_parts, ltb-true}
use Rattle.std.proofs.lemmas.Str.{IsUtf8-from_ascii}
use Rattle.std.proofs.lemmas.Str.Ascii.{IsAscii-nil, IsAscii-cons}
use Rattle.rdf_terms.specs.Iri.{has_forbidden, has_scheme, is_iri}
use Rattle.rdf_terms.specs.Literal.{LiteralParts, is_literal, tag_fits}
use Rattle.rdf_terms.proofs.Utf8Lemmas.{text_from, iri_from}

ascii_from : (bs : List ℕ) → list_all is_ascii bs ≡ true → IsAscii bs
ascii_from [] passes = IsAscii-nil
ascii_from (b ∷ bs) passes =
    let both = and_parts (is_ascii b) (list_all is_ascii bs) passes in IsAscii-cons b bs (ltb-true b 128 both.0) (ascii_from bs both.1)

ascii_text : (text : List ℕ) → list_all is_ascii text ≡ true → IsUtf8 text
ascii_text text passes = IsUtf8-from_ascii text (ascii_from text passes)

pub ascii_iri : (text : List ℕ) → list_all is_ascii text ≡ true → has_scheme text ≡ true → has_forbidden text ≡ false → IsTrue (is_iri text)
ascii_iri text passes scheme allowed = iri_from text (ascii_text text passes) scheme allowed

pub ascii_literal : (l : LiteralParts) → list_all is_ascii l.lexical ≡ true → IsTrue (is_iri l.datatype) → tag_fits l.datatype l.tag ≡ true → IsTrue (is_literal l)
ascii_literal l passes datatype fits =
    and_from (is_utf8 l.lexical) (is_iri l.datatype && tag_fits l.datatype l.tag) (text_from l.lexical (ascii_text l.lexical passes))
    (and_from (is_iri l.datatype) (tag_fits l.datatype l.tag) datatype fits)
