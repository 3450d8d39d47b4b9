-- What a reference means against a base (RFC 3986, section 5.2).
use Rattle.std.specs.Prelude.{◌≡◌, ℕ, Bool, ◌&&◌, ◌==◌, false, true, if◌then◌else◌, List, [], ◌∷◌, ◌++◌, codes, Option, is_some, IsNone, MatchBool, IsSomeAnd}
use Rattle.std.specs.Option.{option_or}
use Rattle.rdf_terms.specs.Cuts.{slash, colon, up_to_slash}
use Rattle.rdf_terms.specs.Dots.{without_dots}
use Rattle.rdf_terms.specs.Reference.{Components, recomposed, IsBase, HasComponents}
use Rattle.rdf_terms.specs.Iri.{has_scheme}

abbrev pub is_empty : List ℕ → Bool
is_empty [] = true
is_empty (c ∷ cs) = false

abbrev pub begins_with_slash : List ℕ → Bool
begins_with_slash [] = false
begins_with_slash (c ∷ cs) = c == slash

-- a base with an authority and an empty path puts a slash before the path; every other one its path up to and with its last
-- slash (RFC 3986, section 5.2.3)
abbrev pub merged : Components → List ℕ → List ℕ
merged base path = (if is_some base.authority && is_empty base.path then codes "/" else up_to_slash base.path) ++ path

-- the components of the result: a row for a reference with an authority, with an empty path, with a path that begins with a
-- slash, and with another path (RFC 3986, section 5.2.2)
abbrev pub target : Components → Components → Components
target base r =
    if is_some r.authority
    then record { authority = r.authority; path = without_dots r.path; query = r.query; fragment = r.fragment } else
    if is_empty r.path
    then record { authority = base.authority; path = base.path; query = option_or r.query base.query; fragment = r.fragment } else
    if begins_with_slash r.path
    then record { authority = base.authority; path = without_dots r.path; query = r.query; fragment = r.fragment }
    else record { authority = base.authority; path = without_dots (merged base r.path); query = r.query; fragment = r.fragment }

-- the text has the base's scheme, and then the recomposition of the result, whatever components that has itself
abbrev pub ResolvesTo : List ℕ → List ℕ → List ℕ → Type 0
ResolvesTo base reference text =
    (scheme : List ℕ) × (b r : Components) × IsBase base scheme b × HasComponents reference r × (text ≡ scheme ++ colon ∷ recomposed (target b r))

-- a reference with a scheme means itself, its dot segments too; any other one needs a base
abbrev pub Means : Option (List ℕ) → List ℕ → List ℕ → Type 0
Means base reference text = MatchBool (has_scheme reference) (text ≡ reference) (IsSomeAnd base (λ b. ResolvesTo b reference text))

-- the reference has no scheme, and there is no base to resolve it against
abbrev pub LacksBase : Option (List ℕ) → List ℕ → Type 0
LacksBase base reference = IsNone base × (has_scheme reference ≡ false)
