-- Texts and IRIs as their tests have them.
use Rattle.std.proofs.Common.{◌≡◌, ℕ, true, false, ◌&&◌, not, List, IsTrue}
use Rattle.std.specs.Str.{IsUtf8, is_utf8}
use Rattle.std.proofs.lemmas.Bool.{and_from, not_from_false}
use Rattle.std.proofs.lemmas.Str.{is_utf8-from_IsUtf8}
use Rattle.rdf_terms.specs.Iri.{has_forbidden, has_scheme, is_iri}

pub text_from : (text : List ℕ) → IsUtf8 text → IsTrue (is_utf8 text)
text_from text utf8 = is_utf8-from_IsUtf8 text utf8

pub iri_from : (text : List ℕ) → IsUtf8 text → has_scheme text ≡ true → has_forbidden text ≡ false → IsTrue (is_iri text)
iri_from text utf8 scheme allowed =
    and_from (is_utf8 text) (has_scheme text && not (has_forbidden text)) (is_utf8-from_IsUtf8 text utf8)
    (and_from (has_scheme text) (not (has_forbidden text)) scheme (not_from_false (has_forbidden text) allowed))
