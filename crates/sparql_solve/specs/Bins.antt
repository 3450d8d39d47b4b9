-- Items in bins by a term, as the rows of a join's right side by the one term that they have at the one column of the key.
use Rattle.std.specs.Prelude.{ℕ, Bool, false, cond, List, [], ◌∷◌, ◌++◌, map, Option, Some, None, zero, suc}
use Rattle.rdf_terms.specs.declared.term.Term.{Term}
use Rattle.sparql_values.specs.Mapping.{Mapping, same_term, value_at}
use Rattle.sparql_solve.specs.declared.term_bins.Bin.{Bin}
use Rattle.sparql_solve.specs.declared.term_bins.Bin.TheVariants.{One, Many}

-- the items of a bin
abbrev pub bin_items : {T : Type 0} → Bin T → List T
bin_items (One x) = x.now ∷ []
bin_items (Many xs) = map (λ x. x.now) xs.items

abbrev pub is_term : Term → Option Term → Bool
is_term t (Some u) = same_term t u
is_term t None = false

-- the mapping has the term at the column
abbrev pub has_at : ℕ → Term → Mapping → Bool
has_at column t m = is_term t (value_at m column)

-- what stands in the bin of a term, where each term has the bin at its own place
abbrev pub binned : {X : Type 0} → List Term → List (List X) → Term → List X
binned [] bins t = []
binned (u ∷ terms) [] t = []
binned (u ∷ terms) (bin ∷ bins) t = cond (same_term t u) bin (binned terms bins t)

-- the bins with one item more in the one at the place
abbrev pub with_at : {X : Type 0} → ℕ → X → List (List X) → List (List X)
with_at place m [] = []
with_at zero m (bin ∷ bins) = (bin ++ m ∷ []) ∷ bins
with_at (suc place) m (bin ∷ bins) = bin ∷ with_at place m bins

-- the same of what a mapping has at a column, where it has something there
abbrev pub binned_in : {X : Type 0} → List Term → List (List X) → Option Term → List X
binned_in terms bins (Some t) = binned terms bins t
binned_in terms bins None = []
