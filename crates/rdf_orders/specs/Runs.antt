-- Runs of keys in an order, the next key of a run, and what a look-up finds.
use Rattle.std.specs.Prelude.{◌≡◌, ℕ, ◌+◌, ◌-◌, ◌^◌, min, max, Bool, List, ◌++◌, map, length, take, Option, IfSome, IsTrue}
use Rattle.std.specs.BTreeMap.Range.{IsLeBy, IsLtBy}
use Rattle.std.specs.FinSet as set
use Rattle.rdf_orders.specs.declared.order.Order.{Order}
use Rattle.rdf_orders.specs.declared.order.Order.TheVariants.{Spo}
use Rattle.rdf_terms.specs.Lists.{ListsOnce}
use Rattle.rdf_orders.specs.Quads.{IdQuad, IdQuads, key_in, key_cmp}

-- the set has the quad
abbrev pub Has : IdQuads → IdQuad → Type 0
Has quads q = IsTrue (set.contains quads q)

-- the key begins with the prefix
abbrev pub BeginsWith : List ℕ → List ℕ → Type 0
BeginsWith prefix key = take (length prefix) key ≡ prefix

-- the key begins with the prefix and is greater than `after`, where there is one
pub record IsAhead (prefix : List ℕ) (after : Option (List ℕ)) (key : List ℕ) : Type 0 where
  pub begins : BeginsWith prefix key
  pub later : IfSome after (λ a. IsLtBy key_cmp a key)

-- the least key ahead, of those that the quads have in the order
pub record IsNextKey (quads : IdQuads) (order : Order) (prefix : List ℕ) (after : Option (List ℕ)) (key : List ℕ) : Type 0 where
  pub quad : IdQuad
  pub has : Has quads quad
  pub is : key ≡ key_in order quad
  pub ahead : IsAhead prefix after key
  pub least : (q : IdQuad) → Has quads q → IsAhead prefix after (key_in order q) → IsLeBy key_cmp key (key_in order q)

-- no key is ahead
abbrev pub NoneAhead : IdQuads → Order → List ℕ → Option (List ℕ) → Type 0
NoneAhead quads order prefix after = (q : IdQuad) → Has quads q → ¬ IsAhead prefix after (key_in order q)

-- a count that is raised by k, up to the greatest `usize`, where it stays
abbrev pub raised_by : ℕ → ℕ → ℕ
raised_by k count = max count (min (count + k) (2 ^ 64 - 1))

-- the list of keys has gained those of the quads in `Spo`, each once
pub record AppendsKeysOnce (quads : IdQuads) (old new : List (List ℕ)) : Type 0 where
  pub found : List IdQuad
  pub appended : new ≡ old ++ map (key_in Spo) found
  pub each_once : ListsOnce quads found

-- it has gained those of some of the quads, each once, and of all of them where it is said so
pub record AppendsSomeKeys (quads : IdQuads) (all : Bool) (old new : List (List ℕ)) : Type 0 where
  pub some : IdQuads
  pub within : (q : IdQuad) → Has some q → Has quads q
  pub appended : AppendsKeysOnce some old new
  pub whole : IsTrue all → some ≡ quads

-- the quads that pass the test stand together in the order: what lies between two of them is one of them
abbrev pub IsUnbrokenRun : Order → (IdQuad → Bool) → Type 0
IsUnbrokenRun order test = (a b c : IdQuad) → IsTrue (test a) → IsTrue (test c)
    → IsLeBy key_cmp (key_in order a) (key_in order b) → IsLeBy key_cmp (key_in order b) (key_in order c) → IsTrue (test b)

-- they do so in one of the orders
pub record StandsTogether (test : IdQuad → Bool) : Type 0 where
  pub order : Order
  pub unbroken : IsUnbrokenRun order test
