-- Whether a group has a solution, seen from some rows before others are looked at (SPARQL 1.1 Query, section 16.3).
use Rattle.std.specs.Prelude.{◌≡◌, Bool, List, [], ◌∷◌, ◌++◌, length, map, filter, take, nat_le}
use Rattle.rdf_terms.specs.declared.quad.GraphName.{GraphName}
use Rattle.rdf_dataset.specs.State.{State}
use Rattle.sparql_trees.specs.declared.expression.Expression.{Expression}
use Rattle.sparql_trees.specs.declared.pattern.Pattern.{Pattern}
use Rattle.sparql_values.specs.Mapping.{Variables, Mapping, empty_mapping}
use Rattle.sparql_algebra.specs.Algebra.{Element, element, translation}
use Rattle.sparql_algebra.specs.Bags.{SameBag}
use Rattle.sparql_algebra.specs.Listing.{Listing, Lists}
use Rattle.sparql_algebra.specs.Results.{is_some_solution}
use Rattle.sparql_algebra.specs.Solutions.{satisfies}
use Rattle.sparql_algebra.specs.Under.{agreeing, under}
use Rattle.sparql_solve.specs.declared.look_ups.LookUp.{LookUp}
use Rattle.sparql_solve.specs.Sides.{found_in}
use Rattle.sparql_solve.specs.Under.{all_made}

-- However the state is listed, the answer says whether there is some of these solutions that is compatible with the mapping of the variables.
abbrev pub SaysWhether : Variables → State → Mapping → Bool → (Listing → List Mapping) → Type 0
SaysWhether vs s a answer F = length a ≡ length vs → (d : Listing) → Lists s d → answer ≡ is_some_solution (agreeing (F d) a)

-- a mapping of all variables, and maybe of hidden ones behind them
abbrev pub has_columns : Variables → Mapping → Bool
has_columns vs m = nat_le (length vs) (length m)

-- of what was matched the columns of the variables, where they are compatible with the mapping
abbrev pub cut_under : Variables → Mapping → List Mapping → List Mapping
cut_under vs a ms = agreeing (map (take (length vs)) ms) a

-- what is found for a mapping in one graph, of that what is compatible with the one above
abbrev pub looked_up_under : Listing → LookUp → GraphName → Mapping → Mapping → List Mapping
looked_up_under d l g a x = agreeing (found_in d l g x) a

module _ (vs : Variables) (d : Listing) (g : GraphName) (a : Mapping) where
  -- of what the elements make of mappings, one element after another, what satisfies the condition
  abbrev pub followed : List Element → List Expression → List Mapping → List Mapping
  followed ks F ms = filter (satisfies vs F) (all_made vs d g a ks ms)

-- ---- laws

-- What follows from some mappings and what follows from others is what follows from both: so some have a solution where the first ones have.
abbrev pub FollowedInParts : Type 0
FollowedInParts = (vs : Variables) (d : Listing) (g : GraphName) (a : Mapping) (ks : List Element) (F : List Expression) (first rest : List Mapping) →
    followed vs d g a ks F (first ++ rest) ≡ followed vs d g a ks F first ++ followed vs d g a ks F rest

-- What follows from the mapping that binds nothing is the group's solutions.
abbrev pub GroupIsFollowed : Type 0
GroupIsFollowed = (vs : Variables) (s : State) (d : Listing) → Lists s d → (g : GraphName) (a : Mapping) → length a ≡ length vs → (p : Pattern) →
    SameBag (followed vs d g a (map element p.members) p.filters (empty_mapping vs ∷ [])) (under vs d g (translation p) a)
