-- The steps of the plain evaluator over the members of a group.
use Rattle.std.specs.Prelude.{ℕ, List, [], ◌∷◌, ◌++◌}
use Rattle.std.specs.List.{flat_map}
use Rattle.rdf_terms.specs.declared.term.Term.{Term}
use Rattle.rdf_terms.specs.declared.quad.GraphName.{GraphName}
use Rattle.rdf_terms.specs.declared.quad.GraphName.TheVariants.{Named}
use Rattle.rdf_dataset.specs.State.{State}
use Rattle.sparql_trees.specs.declared.pattern.Pattern.{Pattern}
use Rattle.sparql_values.specs.Mapping.{Variables, Mapping, single}
use Rattle.sparql_algebra.specs.Algebra.{Algebra, Element, joined, optional, removed, translation}
use Rattle.sparql_algebra.specs.Bags.{SameBag}
use Rattle.sparql_algebra.specs.Listing.{Listing, Lists}
use Rattle.sparql_algebra.specs.Solutions.{joins, solutions}

-- however the state is listed, the rows are these solutions, each as often
abbrev pub AreSolutions : State → List Mapping → (Listing → List Mapping) → Type 0
AreSolutions s rows F = (d : Listing) → Lists s d → SameBag rows (F d)

-- the rows, and with them what is still to come
abbrev pub AreMoreSolutions : State → List Mapping → (Listing → List Mapping) → (Listing → List Mapping) → Type 0
AreMoreSolutions s rows rest F = (d : Listing) → Lists s d → SameBag (rows ++ rest d) (F d)

-- the pattern of an element
abbrev pub part : Element → Algebra
part (joined A) = A
part (optional F A) = A
part (removed A) = A

module _ (vs : Variables) (d : Listing) where
  -- the solutions of an element alone, without its condition
  abbrev pub element_solutions : GraphName → Element → List Mapping
  element_solutions g (joined A) = solutions vs d g A
  element_solutions g (optional F A) = solutions vs d g A
  element_solutions g (removed A) = solutions vs d g A

  -- the solutions over some of the names, the variable bound to the name
  abbrev pub over_names : List ℕ → Algebra → List Term → List Mapping
  over_names name A names = flat_map (λ n. joins (solutions vs d (Named n) A) (single vs name n ∷ [])) names

  -- the solutions of some groups, one after another
  abbrev pub over_groups : GraphName → List Pattern → List Mapping
  over_groups g ps = flat_map (λ p. solutions vs d g (translation p)) ps
