-- The steps of the evaluator: every member of a group is found under each row so far (SPARQL 1.1 Query, section 18.6).
use Rattle.std.specs.Prelude.{◌≡◌, ℕ, zero, suc, Bool, true, false, ◌&&◌, cond, List, [], ◌∷◌, length, Option, Some, None, is_none, map, filter, nat_eq, zip, not}
use Rattle.std.specs.List.{flat_map, list_all, list_any, fold}
use Rattle.rdf_terms.specs.declared.term.Term.{Term}
use Rattle.rdf_terms.specs.declared.quad.GraphName.{GraphName}
use Rattle.rdf_terms.specs.declared.quad.GraphName.TheVariants.{Named}
use Rattle.rdf_dataset.specs.State.{State}
use Rattle.sparql_values.specs.Mapping.{Variables, Mapping, same_value, single, merge}
use Rattle.sparql_algebra.specs.Algebra.{Algebra, Element, joined, optional, removed}
use Rattle.sparql_algebra.specs.Bags.{SameBag}
use Rattle.sparql_algebra.specs.Listing.{Listing, Lists}
use Rattle.sparql_algebra.specs.Solutions.{merges, or_alone, shares, satisfies}
use Rattle.sparql_algebra.specs.Under.{agreeing, under, reads}
use Rattle.sparql_solve.specs.declared.look_ups.LookUp.{LookUp}
use Rattle.sparql_solve.specs.Matching.{has_column}
use Rattle.sparql_solve.specs.Members.{AreSolutions, element_solutions}
use Rattle.sparql_solve.specs.Sides.{found}

-- ---- rows

-- the mapping binds nothing
abbrev pub binds_none : Mapping → Bool
binds_none m = list_all is_none m

-- there is one mapping alone, which binds nothing
abbrev pub is_unit : List Mapping → Bool
is_unit [] = false
is_unit (x ∷ []) = binds_none x
is_unit (x ∷ y ∷ xs) = false

abbrev pub lies : Option Term × Option Term → Bool
lies (Some t, y) = same_value (Some t) y
lies (None, y) = true

-- each column of the first mapping is unbound or has what the second one has there
abbrev pub below : Mapping → Mapping → Bool
below a b = list_all lies (zip a b)

-- it has as many columns and lies below
abbrev pub is_served : Mapping → Mapping → Bool
is_served a b = nat_eq (length a) (length b) && below a b

abbrev pub shown : Option Term × Bool → Option Term
shown (x, true) = x
shown (x, false) = None

-- the columns whose flag is up; the others are unbound
abbrev pub masked : List Bool → Mapping → Mapping
masked flags m = map shown (zip m flags)

-- the flags below a number for which the test is true
abbrev pub flags_where : (ℕ → Bool) → ℕ → List Bool
flags_where test zero = []
flags_where test (suc n) = test zero ∷ flags_where (λ c. test (suc c)) n

-- ---- elements

abbrev pub is_joined : Element → Bool
is_joined (joined A) = true
is_joined (optional F A) = false
is_joined (removed A) = false

-- it is joined, and doesn't see the active graph
abbrev pub is_apart : Element → Bool
is_apart (joined A) = not (reads A)
is_apart (optional F A) = false
is_apart (removed A) = false

abbrev pub is_removed : Element → Bool
is_removed (joined A) = false
is_removed (optional F A) = false
is_removed (removed A) = true

-- those solutions of an element's pattern that count for a mapping: of MINUS's those that have a variable in common with it
abbrev pub met : Element → Mapping → List Mapping → List Mapping
met (joined A) x S = S
met (optional F A) x S = S
met (removed A) x S = filter (shares x) S

-- the mapping, where there is none of these
abbrev pub where_none : Mapping → List Mapping → List Mapping
where_none x [] = x ∷ []
where_none x (m ∷ ms) = []

-- what an element makes of a mapping, where these are the mapping's merges with the solutions that count for it
abbrev pub kept : Variables → Element → Mapping → List Mapping → List Mapping
kept vs (joined A) x ms = ms
kept vs (optional F A) x ms = or_alone x (filter (satisfies vs F) ms)
kept vs (removed A) x ms = where_none x ms

-- Under what an element's pattern is found for a mapping that stands under another one: OPTIONAL's and MINUS's under the mapping alone, since a
-- merge that isn't compatible with the other one keeps the mapping from standing alone, or from staying.
abbrev pub asked : Element → Mapping → Mapping → Mapping
asked (joined A) a x = merge a x
asked (optional F A) a x = x
asked (removed A) a x = x

-- However the state is listed, the rows are those of these solutions that are compatible with the mapping of the variables, each as often.
abbrev pub AreUnder : Variables → State → Mapping → List Mapping → (Listing → List Mapping) → Type 0
AreUnder vs s a rows F = length a ≡ length vs → AreSolutions s rows (λ d. agreeing (F d) a)

-- however the state is listed, an element makes the same of a mapping by these rows as by these merges
abbrev pub AreEnough : Variables → State → Element → Mapping → List Mapping → (Listing → List Mapping) → Type 0
AreEnough vs s k x rows F = (d : Listing) → Lists s d → SameBag (kept vs k x rows) (kept vs k x (F d))

-- for each mapping of the variables the look-ups give the merges with these solutions, each as often
abbrev pub IsLookUpOf : Variables → State → LookUp → (Listing → List Mapping) → Type 0
IsLookUpOf vs s l F = (d : Listing) → Lists s d → (m : Mapping) → length m ≡ length vs → SameBag (found vs d l m) (merges (F d) m)

-- for each column of the variables whether a triple pattern of the look-ups has it
abbrev pub own_columns : Variables → LookUp → List Bool
own_columns vs l = flags_where (λ at. list_any (has_column at) l.places) (length vs)

module _ (vs : Variables) (d : Listing) where
  -- what an element makes of a mapping, of that what is compatible with the one above
  abbrev pub made : GraphName → Mapping → Element → Mapping → List Mapping
  made g a k x = agreeing (kept vs k x (merges (met k x (element_solutions vs d g k)) x)) a

  -- what is looked up for a mapping and counts for it: of MINUS's nothing, where the mapping has none of the look-ups' variables
  abbrev pub counting : LookUp → Element → Mapping → List Mapping
  counting l (joined A) x = found vs d l x
  counting l (optional F A) x = found vs d l x
  counting l (removed A) x = cond (binds_none (masked (own_columns vs l) x)) [] (found vs d l x)

  -- the solutions in the graph of this name, under the mapping and the variable's value
  abbrev pub under_name : List ℕ → Algebra → Mapping → Term → List Mapping
  under_name name A a n = map (λ x. merge x (single vs name n)) (under vs d (Named n) A (merge a (single vs name n)))

  -- what elements make of mappings, one element after another
  abbrev pub all_made : GraphName → Mapping → List Element → List Mapping → List Mapping
  all_made g a ks ms = fold (λ xs k. flat_map (made g a k) xs) ms ks

-- a mapping of all variables
abbrev pub is_wide : Variables → Mapping → Bool
is_wide vs m = nat_eq (length m) (length vs)

-- the rows are what the element makes of these
abbrev pub AreMade : Variables → State → GraphName → Mapping → Element → List Mapping → List Mapping → Type 0
AreMade vs s g a k rows out =
    length a ≡ length vs → list_all (is_wide vs) rows ≡ true → AreSolutions s out (λ d. flat_map (made vs d g a k) rows)

-- for each mapping of the variables the look-ups give the merges with those of these solutions that count for it, each as often
abbrev pub IsLookUpFor : Variables → State → Element → LookUp → (Listing → List Mapping) → Type 0
IsLookUpFor vs s k l F =
    (d : Listing) → Lists s d → (m : Mapping) → length m ≡ length vs → SameBag (counting vs d l k m) (merges (met k m (F d)) m)
