-- Keys whose numbers fit 32 bits, and trees of keys of either width.
use Rattle.std.specs.Prelude.{◌≡◌, ◌<◌, ◌-◌, ◌^◌, ℕ, ltb, not, ◌&&◌, ◌||◌, if◌then◌else◌, List, [], ◌∷◌, map, length, IsTrue, ⊤}
use Rattle.std.specs.List.{AllByRecursion}
use Rattle.std.specs.Ordering.{is_eq}
use Rattle.std.specs.BTreeSet.{BTreeSet, contains}
use Rattle.rdf_orders.specs.declared.key_tree.Nodes.{Nodes}
use Rattle.rdf_orders.specs.declared.key_tree.Nodes.TheVariants as nodes
use Rattle.rdf_orders.specs.declared.key_iters.AllKeys.{AllKeys}
use Rattle.rdf_orders.specs.declared.key_iters.AllKeys.TheVariants as all
use Rattle.rdf_orders.specs.declared.key_iters.SomeKeys.{SomeKeys}
use Rattle.rdf_orders.specs.declared.key_iters.SomeKeys.TheVariants as some
use Rattle.rdf_orders.specs.Quads.{key_cmp}

-- four numbers that each fit 32 bits
pub record IsNarrow (k : List ℕ) : Type 0 where
  pub four : length k ≡ 4
  pub fits : AllByRecursion (λ n. n < 2 ^ 32) k

-- the greatest narrow key that is not greater than the key: the same numbers, up to the first that doesn't fit
abbrev pub floor_key : List ℕ → List ℕ
floor_key [] = []
floor_key (n ∷ k) = if ltb n (2 ^ 32) then n ∷ floor_key k else (2 ^ 32 - 1) ∷ map (λ _. 2 ^ 32 - 1) k

-- a key is the same key in either width
abbrev pub tree_in : Nodes → BTreeSet (List ℕ)
tree_in (nodes.Narrow tree) = tree
tree_in (nodes.Wide tree) = tree

abbrev pub all_keys : AllKeys → List (List ℕ)
all_keys (all.Narrow keys) = keys
all_keys (all.Wide keys) = keys

abbrev pub some_keys : SomeKeys → List (List ℕ)
some_keys (some.Narrow keys) = keys
some_keys (some.Wide keys) = keys

-- a narrow tree has narrow keys
abbrev pub FitTheirWidth : Nodes → Type 0
FitTheirWidth (nodes.Narrow tree) = (k : List ℕ) → IsTrue (contains key_cmp tree k) → IsNarrow k
FitTheirWidth (nodes.Wide tree) = ⊤

-- a tree has gained this key
abbrev pub GainsOne : BTreeSet (List ℕ) → BTreeSet (List ℕ) → List ℕ → Type 0
GainsOne old new key = (k : List ℕ) → contains key_cmp new k ≡ (is_eq (key_cmp key k) || contains key_cmp old k)

-- it has this key no more
abbrev pub LosesOne : BTreeSet (List ℕ) → BTreeSet (List ℕ) → List ℕ → Type 0
LosesOne old new key = (k : List ℕ) → contains key_cmp new k ≡ (not (is_eq (key_cmp key k)) && contains key_cmp old k)
