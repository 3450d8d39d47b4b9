-- The parts of a term's test, and its text.
use Rattle.std.proofs.Common.{◌≡◌, refl, ℕ, arith, Bool, true, false, not, ◌&&◌, List, [], ◌∷◌, ◌++◌, codes, decimal, IsUtf8, nat_eq, Option, Some, None, if◌then◌else◌}
use Rattle.std.specs.Char.{is_ascii_uppercase, to_ascii_lowercase}
use Rattle.std.specs.Cmp.Lexicographic.{pointwise, bytes_decides}
use Rattle.std.specs.List.{list_any}
use Rattle.std.specs.Str.{is_utf8, str_to_ascii_lowercase, IsAscii}
use Rattle.std.proofs.lemmas.Bool.{and_parts, or_parts, ltb-true, not-true}
use Rattle.std.proofs.lemmas.Bool.Decides.{nat_tests}
use Rattle.std.proofs.lemmas.Str.{IsUtf8-append, IsUtf8-nil, IsUtf8-from_ascii, IsUtf8-from_is_utf8}
use Rattle.rdf_terms.specs.Iri.{is_iri}
use Rattle.rdf_terms.specs.Literal.{LiteralParts, xsd_string, lang_string, is_tag, tag_fits, is_literal}
use Rattle.rdf_terms.specs.Tags.{IsTagName}
use Rattle.rdf_terms.specs.Term.{is_term}
use Rattle.rdf_terms.specs.TermText.{suffix_text, term_text}
use Rattle.rdf_terms.specs.declared.term.Term.{Term}
use Rattle.rdf_terms.specs.declared.term.Term.TheVariants.{Blank, Iri, Literal}
use Rattle.rdf_terms.proofs.AsciiLemmas.{utf8_cons}
use Rattle.rdf_terms.proofs.TagForms.{tag_name, tag_low, ascii_from}
use Rattle.rdf_terms.proofs.WrittenIriLemmas.{angled, angled_utf8}
use Rattle.rdf_terms.proofs.WrittenNumberLemmas.{blank_ascii}
use Rattle.rdf_terms.proofs.WrittenTextLemmas.{quoted, quoted_utf8}

-- ---- tags

stays : (c : ℕ) → is_ascii_uppercase c ≡ false → to_ascii_lowercase c ≡ c
stays c h = grind (arith, nat_tests)

-- a tag without capitals is the one of its lower case
pub lower_stays : (tag : List ℕ) → list_any is_ascii_uppercase tag ≡ false → str_to_ascii_lowercase tag ≡ tag
lower_stays [] h = refl
lower_stays (c ∷ cs) h =
    let both = or_parts (is_ascii_uppercase c) (list_any is_ascii_uppercase cs) h in
    λ i. stays c both.0 i ∷ lower_stays cs both.1 i

pub tag_parts : (datatype tag : List ℕ) → tag_fits datatype (Some tag) ≡ true → (datatype ≡ lang_string) × (is_tag tag ≡ true) × (list_any is_ascii_uppercase tag ≡ false)
tag_parts datatype tag h =
    let a = and_parts (pointwise nat_eq datatype lang_string && is_tag tag) (not (list_any is_ascii_uppercase tag)) h in
    let b = and_parts (pointwise nat_eq datatype lang_string) (is_tag tag) a.0 in
    ((bytes_decides datatype lang_string).0 b.0, b.1, not-true (list_any is_ascii_uppercase tag) a.1)

pub tag_ascii : (tag : List ℕ) → IsTagName tag → IsAscii (64 ∷ tag)
tag_ascii tag f = ascii_from (64 ∷ tag) (omega arith, tag_low tag f)

-- ---- literals

pub literal_parts : (l : LiteralParts) → is_literal l ≡ true → IsUtf8 l.lexical × (is_iri l.datatype ≡ true) × (tag_fits l.datatype l.tag ≡ true)
literal_parts l h =
    let a = and_parts (is_utf8 l.lexical) _ h in
    let b = and_parts (is_iri l.datatype) (tag_fits l.datatype l.tag) a.1 in
    (IsUtf8-from_is_utf8 l.lexical a.0, b.0, b.1)

suffix_utf8 : (datatype : List ℕ) (tag : Option (List ℕ)) → is_iri datatype ≡ true → tag_fits datatype tag ≡ true → IsUtf8 (suffix_text datatype tag)
suffix_utf8 datatype (Some tag) h k = IsUtf8-from_ascii (64 ∷ tag) (tag_ascii tag (tag_name tag (tag_parts datatype tag k).1))
suffix_utf8 datatype None h k = by (pointwise nat_eq datatype xsd_string)
  where
    by : (b : Bool) → IsUtf8 (if b then [] else codes "^^<" ++ datatype ++ codes ">")
    by true = IsUtf8-nil
    by false = utf8_cons 94 (94 ∷ angled datatype) (omega arith) (utf8_cons 94 (angled datatype) (omega arith) (angled_utf8 datatype h))

-- ---- terms

pub term_utf8 : (t : Term) → is_term t ≡ true → IsUtf8 (term_text t)
term_utf8 (Blank n) h = IsUtf8-from_ascii (95 ∷ 58 ∷ 98 ∷ decimal n) (blank_ascii n (ltb-true n 18446744073709551616 h))
term_utf8 (Iri iri) h = angled_utf8 iri h
term_utf8 (Literal l) h =
    let p = literal_parts l h in
    IsUtf8-append (quoted l.lexical) (suffix_text l.datatype l.tag) (quoted_utf8 l.lexical p.0) (suffix_utf8 l.datatype l.tag p.1 p.2)
