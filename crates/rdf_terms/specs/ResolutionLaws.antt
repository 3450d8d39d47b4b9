-- A text has just one list of components, and a reference just one meaning.
use Rattle.std.specs.Prelude.{◌≡◌, ℕ, true, false, List, [], ◌∷◌, ◌++◌, codes, Option, Some}
use Rattle.std.specs.List.{list_any}
use Rattle.rdf_terms.specs.Dots.{is_dot_segment, segments, with_slashes, without_dots}
use Rattle.rdf_terms.specs.Iri.{has_scheme}
use Rattle.rdf_terms.specs.Reference.{Components, HasComponents, IsBase}
use Rattle.rdf_terms.specs.Resolution.{Means}

abbrev pub EachTextHasComponents : Type 0
EachTextHasComponents = (text : List ℕ) → (p : Components) × HasComponents text p

abbrev pub ComponentsAreUnique : Type 0
ComponentsAreUnique = (text : List ℕ) (p q : Components) → HasComponents text p → HasComponents text q → p ≡ q

abbrev pub BaseIsUnique : Type 0
BaseIsUnique = (text s t : List ℕ) (p q : Components) → IsBase text s p → IsBase text t q → (s ≡ t) × (p ≡ q)

-- against a base with a scheme each reference means a text
abbrev pub EachReferenceMeans : Type 0
EachReferenceMeans = (base reference : List ℕ) → has_scheme base ≡ true → (text : List ℕ) × Means (Some base) reference text

abbrev pub OneReferenceMeaning : Type 0
OneReferenceMeaning = (base : Option (List ℕ)) (reference s t : List ℕ) → Means base reference s → Means base reference t → s ≡ t

abbrev pub together : List (List ℕ) → List ℕ
together [] = []
together (p ∷ ps) = p ++ together ps

-- the segments of a path are the path
abbrev pub SegmentsAreThePath : Type 0
SegmentsAreThePath = (path : List ℕ) → together (with_slashes (segments path)) ≡ path

-- no segment of a path without its dot segments is `.` or `..`
abbrev pub NoDotsAreLeft : Type 0
NoDotsAreLeft = (path : List ℕ) → list_any is_dot_segment (segments (without_dots path)) ≡ false

-- a path that has no dot segment stays as it is
abbrev pub OthersAreKept : Type 0
OthersAreKept = (path : List ℕ) → list_any is_dot_segment (segments path) ≡ false → without_dots path ≡ path

-- the two examples of RFC 3986, section 5.2.4
abbrev pub DotsAreRemoved : Type 0
DotsAreRemoved = (without_dots (codes "/a/b/c/./../../g") ≡ codes "/a/g") × (without_dots (codes "mid/content=5/../6") ≡ codes "mid/6")

-- a result whose text has other components than those that it was made of: against `x:a` the reference `/.//b` means `x://b`
abbrev pub DotsBeforeSlashes : Type 0
DotsBeforeSlashes = Means (Some (codes "x:a")) (codes "/.//b") (codes "x://b")
