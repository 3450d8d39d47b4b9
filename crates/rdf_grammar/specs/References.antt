-- The IRIs that are written in a document.
use Rattle.std.specs.Prelude.{◌≡◌, ◌↔◌, ℕ, true, false, if◌then◌else◌, List, Option, Some, None, IfSome}
use Rattle.std.specs.Option.{option_map}
use Rattle.rdf_terms.specs.Iri.{has_scheme, has_forbidden}
use Rattle.rdf_terms.specs.Resolution.{Means}
use Rattle.rdf_terms.specs.Rewriting.{resolved}

-- The IRI that a reference means against the base (RFC 3986, section 5.2); none for a relative one without a base, and none
-- where a character stands in no IRI.
unfoldable pub resolve : Option (List ℕ) → List ℕ → Option (List ℕ)
resolve base reference =
    if has_forbidden reference then None else
    if has_scheme reference then Some reference else option_map (λ b. resolved b reference) base

-- `resolve` is the meaning of references without forbidden characters
abbrev pub ReferencesAreResolved : Type 0
ReferencesAreResolved = (base : Option (List ℕ)) (reference iri : List ℕ) → IfSome base (λ b. has_scheme b ≡ true) → has_forbidden reference ≡ false →
    (resolve base reference ≡ Some iri) ↔ Means base reference iri
