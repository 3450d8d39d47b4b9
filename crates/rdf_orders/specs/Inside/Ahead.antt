-- The keys of an order from where a run begins, and from the key that was answered last.
use Rattle.std.specs.Prelude.{◌≡◌, ℕ, true, List, ◌∷◌, Option}
use Rattle.std.specs.declared.ops.Bound.{Bound}
use Rattle.std.specs.declared.ops.Bound.TheVariants.{Excluded}
use Rattle.std.specs.BTreeMap.Range.{IsFromStart}
use Rattle.std.specs.List.{AllByRecursion, list_any}
use Rattle.std.specs.List.Sorted.{IsStrictlySortedBy}
use Rattle.std.specs.Ordering.{eq_by_cmp}
use Rattle.rdf_orders.specs.declared.order.Order.{Order}
use Rattle.rdf_orders.specs.Quads.{IdQuads, key_cmp}
use Rattle.rdf_orders.specs.Inside.Mirror.{is_key_of}
use Rattle.rdf_orders.specs.Inside.Starts.{StartsRun}

-- a key of the quads inside the bound
pub record IsKeyFrom (quads : IdQuads) (order : Order) (start : Bound (List ℕ)) (k : List ℕ) : Type 0 where
  pub is_key : is_key_of quads order k ≡ true
  pub inside : IsFromStart key_cmp start k

-- the list has each key of the quads that is inside the bound, and no other, and rises
pub record AreKeysFrom (quads : IdQuads) (order : Order) (start : Bound (List ℕ)) (keys : List (List ℕ)) : Type 0 where
  pub rises : IsStrictlySortedBy key_cmp keys
  pub each : AllByRecursion (IsKeyFrom quads order start) keys
  pub all : (k : List ℕ) → IsKeyFrom quads order start k → list_any (eq_by_cmp key_cmp k) keys ≡ true

-- the list has the keys from where those ahead begin
pub record AreKeysAhead (quads : IdQuads) (order : Order) (prefix : List ℕ) (after : Option (List ℕ)) (keys : List (List ℕ)) : Type 0 where
  pub start : Bound (List ℕ)
  pub starts : StartsRun prefix after start
  pub from : AreKeysFrom quads order start keys

-- the key is the first of those
pub record IsFirstAhead (quads : IdQuads) (order : Order) (prefix : List ℕ) (after : Option (List ℕ)) (key : List ℕ) : Type 0 where
  pub behind : List (List ℕ)
  pub ahead : AreKeysAhead quads order prefix after (key ∷ behind)

-- the list has the keys behind this one
abbrev pub AreKeysBehind : IdQuads → Order → List ℕ → List (List ℕ) → Type 0
AreKeysBehind quads order key keys = AreKeysFrom quads order (Excluded key) keys
