-- What an IRI is, over the bytes of its UTF-8 text (RDF 1.1 Concepts, section 3.2; RFC 3987, section 2.2, for the scheme
-- RFC 3986, section 3.1). Every character with a meaning here is ASCII.
use Rattle.std.specs.Prelude.{ℕ, Bool, ◌||◌, ◌&&◌, ◌==◌, not, nat_lt, List, codes, is_some, slice_index}
use Rattle.std.specs.List.{list_any, list_all}
use Rattle.std.specs.Char.{is_ascii_alphabetic, is_ascii_alphanumeric}
use Rattle.std.specs.Str.{is_utf8}
use Rattle.rdf_terms.specs.Cuts.{before, after}

-- U+0000 to U+0020, and the nine characters < > " { } | ^ ` and the backslash
abbrev pub is_forbidden : ℕ → Bool
is_forbidden c = nat_lt c 33 || list_any (λ d. c == d) (codes "<>\"{}|^`\\")

abbrev pub is_scheme_byte : ℕ → Bool
is_scheme_byte c = is_ascii_alphanumeric c || list_any (λ d. c == d) (codes "+-.")

-- letters, digits, `+`, `-` and `.`, the first a letter
abbrev pub is_scheme : List ℕ → Bool
is_scheme text = is_ascii_alphabetic (slice_index text 0) && list_all is_scheme_byte text

-- there is a colon, and what stands before the first is a scheme
abbrev pub has_scheme : List ℕ → Bool
has_scheme text = is_some (after 58 text) && is_scheme (before 58 text)

abbrev pub has_forbidden : List ℕ → Bool
has_forbidden text = list_any is_forbidden text

-- a text of Unicode characters with a scheme and no forbidden character
abbrev pub is_iri : List ℕ → Bool
is_iri text = is_utf8 text && (has_scheme text && not (has_forbidden text))
