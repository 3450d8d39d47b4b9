-- A set of quads and a set of graph names, all as numbers, and what the operations leave of them.
use Rattle.std.specs.Prelude.{◌≡◌, ℕ, List, map, IsTrue, refl}
use Rattle.std.specs.Ordering.{nat_cmp}
use Rattle.std.specs.declared.cmp.Ordering.{Ordering}
use Rattle.std.specs.Coded.{Coded, code_by, coded×, coded_ℕ}
use Rattle.std.specs.FinSet as set
use Rattle.rdf_orders.specs.declared.order.Order.TheVariants.{Spo}
use Rattle.rdf_terms.specs.Lists.{ListsSorted}
use Rattle.rdf_orders.specs.Quads.{IdQuad, IdQuads, key_in, quads_of, id_quads_code}

-- a finite set of numbers
abbrev pub Ids : Type 0
Ids = set.FinSet nat_cmp

abbrev pub ids_of : List ℕ → Ids
ids_of numbers = set.from_list numbers

pub record Contents : Type 0 where
  pub quads : IdQuads
  pub names : Ids

abbrev pub contents_code : Coded Contents
contents_code = code_by (IdQuads × Ids) (coded× id_quads_code (set.code coded_ℕ)) (λ c. (c.quads, c.names)) (λ p. record { quads = p.0; names = p.1 }) (λ _. refl)

-- ---- lists

-- the keys are those of the quads in `Spo`, each once, and rise
pub record ListsKeys (quads : IdQuads) (keys : List (List ℕ)) : Type 0 where
  pub found : List IdQuad
  pub are_keys : keys ≡ map (key_in Spo) found
  pub sorted : ListsSorted quads found

-- the numbers are those of the set, each once, and rise
abbrev pub ListsIds : Ids → List ℕ → Type 0
ListsIds ids numbers = ListsSorted ids numbers

-- ---- what the operations leave

-- no quads, no names
abbrev pub empty_contents : Contents
empty_contents = record { quads = set.empty; names = set.empty }

abbrev pub with_quad : Contents → IdQuad → Contents
with_quad c q = record { quads = set.insert c.quads q; names = c.names }

abbrev pub without_quad : Contents → IdQuad → Contents
without_quad c q = record { quads = set.remove c.quads q; names = c.names }

abbrev pub with_name : Contents → ℕ → Contents
with_name c name = record { quads = c.quads; names = set.insert c.names name }

abbrev pub without_name : Contents → ℕ → Contents
without_name c name = record { quads = c.quads; names = set.remove c.names name }

-- with the quads of these keys and with these names
abbrev pub with_all : Contents → List (List ℕ) → List ℕ → Contents
with_all c keys names = record { quads = set.union c.quads (quads_of keys); names = set.union c.names (ids_of names) }

-- without them
abbrev pub without_all : Contents → List (List ℕ) → List ℕ → Contents
without_all c keys names = record { quads = set.difference c.quads (quads_of keys); names = set.difference c.names (ids_of names) }

-- no member of one is a member of the other
abbrev pub IsDisjoint : {K : Type 0} {R : K → K → Ordering} → set.FinSet R → set.FinSet R → Type 0
IsDisjoint {K} s t = (x : K) → IsTrue (set.contains s x) → ¬ IsTrue (set.contains t x)

-- ---- sets and a count

-- a set of quads, and how many keys it answered
pub record Counted : Type 0 where
  pub quads : IdQuads
  pub count : ℕ

abbrev pub counted_code : Coded Counted
counted_code = code_by (IdQuads × ℕ) (coded× id_quads_code coded_ℕ) (λ c. (c.quads, c.count)) (λ p. record { quads = p.0; count = p.1 }) (λ _. refl)
