-- Search trees that hold one set of quads in three orders, and what insertions and removals make of them.
use Rattle.std.specs.Prelude.{◌≡◌, ℕ, ◌==◌, Bool, not, ◌&&◌, ◌||◌, List, map, length, IsTrue}
use Rattle.std.specs.FinSet as set
use Rattle.std.specs.List.{list_any}
use Rattle.std.specs.Ordering.{is_eq, eq_by_cmp}
use Rattle.std.specs.BTreeSet.{BTreeSet, contains}
use Rattle.rdf_orders.specs.declared.order.Order.{Order}
use Rattle.rdf_orders.specs.declared.order.Order.TheVariants.{Spo, Pos, Osp}
use Rattle.rdf_orders.specs.declared.trees.Trees.{Trees}
use Rattle.rdf_orders.specs.Quads.{IdQuad, IdQuads, key_in, key_cmp, quad_at, quad_of, quads_of}

-- the tree of an order
abbrev pub tree_of : Order → Trees → BTreeSet (List ℕ)
tree_of Spo trees = trees.spo
tree_of Pos trees = trees.pos
tree_of Osp trees = trees.osp

-- whether the numbers are the key in an order of a quad of the set
abbrev pub is_key_of : IdQuads → Order → List ℕ → Bool
is_key_of quads order k = (length k == 4) && set.contains quads (quad_at order k)

abbrev pub has_key : Order → Trees → List ℕ → Bool
has_key order trees k = contains key_cmp (tree_of order trees) k

-- the quads of the first tree
abbrev pub quads_in : Trees → IdQuads
quads_in trees = quads_of trees.spo.keys

-- each of the three trees holds just the keys of the quads
pub record Mirrors (trees : Trees) (quads : IdQuads) : Type 0 where
  pub keys : (order : Order) (k : List ℕ) → has_key order trees k ≡ is_key_of quads order k

-- the first of the trees is this one, and those of the other two orders have just the keys of its quads
pub record AreBuiltOn (spo : BTreeSet (List ℕ)) (trees : Trees) : Type 0 where
  pub first : trees.spo ≡ spo
  pub pos : (k : List ℕ) → has_key Pos trees k ≡ list_any (eq_by_cmp key_cmp k) (map (λ x. key_in Pos (quad_of x)) spo.keys)
  pub osp : (k : List ℕ) → has_key Osp trees k ≡ list_any (eq_by_cmp key_cmp k) (map (λ x. key_in Osp (quad_of x)) spo.keys)

-- the trees of the other two orders have gained the key of the quad, and the first is as it was
pub record GainsBehind (old new : Trees) (q : IdQuad) : Type 0 where
  pub first : new.spo ≡ old.spo
  pub pos : (k : List ℕ) → has_key Pos new k ≡ (is_eq (key_cmp (key_in Pos q) k) || has_key Pos old k)
  pub osp : (k : List ℕ) → has_key Osp new k ≡ (is_eq (key_cmp (key_in Osp q) k) || has_key Osp old k)

-- nothing else than that came in
pub record GainsSome (old new : Trees) (q : IdQuad) : Type 0 where
  pub first : new.spo ≡ old.spo
  pub stay : (order : Order) (k : List ℕ) → IsTrue (has_key order old k) → IsTrue (has_key order new k)
  pub come : (order : Order) (k : List ℕ) → IsTrue (has_key order new k) → IsTrue (is_eq (key_cmp (key_in order q) k) || has_key order old k)

-- the key of the quad is in none of the trees any more, and each other key is where it was
pub record LosesKey (old new : Trees) (q : IdQuad) : Type 0 where
  pub keys : (order : Order) (k : List ℕ) → has_key order new k ≡ (not (is_eq (key_cmp (key_in order q) k)) && has_key order old k)
