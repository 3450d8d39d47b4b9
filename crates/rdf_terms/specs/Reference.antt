-- The components of a reference, and of a base after its scheme (RFC 3986, section 3): those whose recomposition is the text.
use Rattle.std.specs.Prelude.{◌≡◌, ℕ, Bool, true, false, ◌==◌, IsTrue, nat_eq, List, [], ◌∷◌, ◌++◌, codes, Option, None, Some, IfSome}
use Rattle.std.specs.List.{AllByRecursion, starts_with}
use Rattle.rdf_terms.specs.Cuts.{number_sign, slash, colon, question_mark}

-- a component that is absent is None, which isn't the same as empty (RFC 3986, section 5.3)
pub record Components : Type 0 where
  pub authority : Option (List ℕ)
  pub path : List ℕ
  pub query : Option (List ℕ)
  pub fragment : Option (List ℕ)

-- a component with its mark before it, if it is present
abbrev pub marked : List ℕ → Option (List ℕ) → List ℕ
marked mark None = []
marked mark (Some text) = mark ++ text

-- the text with these components (RFC 3986, section 5.3)
abbrev pub recomposed : Components → List ℕ
recomposed p = marked (codes "//") p.authority ++ (p.path ++ (marked (codes "?") p.query ++ marked (codes "#") p.fragment))

abbrev pub Lacks : ℕ → List ℕ → Type 0
Lacks mark text = AllByRecursion (λ c. (c == mark) ≡ false) text

-- empty, or beginning with a slash
abbrev pub is_rooted : List ℕ → Bool
is_rooted [] = true
is_rooted (c ∷ cs) = c == slash

-- after an authority the path is rooted, and without one it doesn't begin with two slashes (RFC 3986, section 3.3)
abbrev pub PathFits : Option (List ℕ) → List ℕ → Type 0
PathFits (Some authority) path = IsTrue (is_rooted path)
PathFits None path = starts_with nat_eq path (codes "//") ≡ false

-- these are the components of the text: no `/`, `?` or `#` in the authority, no `?` or `#` in the path, no `#` in the query
-- (RFC 3986, sections 3.2, 3.3, 3.4)
pub record HasComponents (text : List ℕ) (p : Components) : Type 0 where
  pub text_is : text ≡ recomposed p
  pub authority : IfSome p.authority (λ a. Lacks slash a × Lacks question_mark a × Lacks number_sign a)
  pub path : Lacks question_mark p.path × Lacks number_sign p.path
  pub query : IfSome p.query (λ q. Lacks number_sign q)
  pub path_fits : PathFits p.authority p.path

-- the scheme, which has no `:`, and the other components of a base (RFC 3986, section 3.1)
abbrev pub IsBase : List ℕ → List ℕ → Components → Type 0
IsBase text scheme p = (rest : List ℕ) × (text ≡ scheme ++ colon ∷ rest) × Lacks colon scheme × HasComponents rest p
