-- Quads whose terms are numbers (RDF 1.1 Concepts, section 4), and their keys in three orders.
use Rattle.std.specs.Prelude.{ℕ, Bool, true, leb, ◌==◌, ◌&&◌, List, [], ◌∷◌, map, Option, None, Some, slice_index, refl}
use Rattle.std.specs.declared.cmp.Ordering.{Ordering}
use Rattle.std.specs.Ordering.{nat_cmp}
use Rattle.std.specs.Cmp.Lexicographic.{slice_cmp}
use Rattle.std.specs.Coded.{Coded, code_by, coded×, coded_ℕ}
use Rattle.std.specs.FinSet as set
use Rattle.rdf_orders.specs.declared.order.Order.{Order}
use Rattle.rdf_orders.specs.declared.order.Order.TheVariants.{Spo, Pos, Osp}

pub record IdQuad : Type 0 where
  pub graph : ℕ
  pub subject : ℕ
  pub predicate : ℕ
  pub object : ℕ

-- the key of a quad in an order: its numbers in that arrangement, the graph first
abbrev pub key_in : Order → IdQuad → List ℕ
key_in Spo q = q.graph ∷ q.subject ∷ q.predicate ∷ q.object ∷ []
key_in Pos q = q.graph ∷ q.predicate ∷ q.object ∷ q.subject ∷ []
key_in Osp q = q.graph ∷ q.object ∷ q.subject ∷ q.predicate ∷ []

-- the quad that has this key in an order
abbrev pub quad_at : Order → List ℕ → IdQuad
quad_at Spo k = record { graph = slice_index k 0; subject = slice_index k 1; predicate = slice_index k 2; object = slice_index k 3 }
quad_at Pos k = record { graph = slice_index k 0; subject = slice_index k 3; predicate = slice_index k 1; object = slice_index k 2 }
quad_at Osp k = record { graph = slice_index k 0; subject = slice_index k 2; predicate = slice_index k 3; object = slice_index k 1 }

-- the quad that has this key in `Spo`
abbrev pub quad_of : List ℕ → IdQuad
quad_of = quad_at Spo

-- keys are compared number by number
abbrev pub key_cmp : List ℕ → List ℕ → Ordering
key_cmp = slice_cmp nat_cmp

-- quads are compared by graph, subject, predicate and object
abbrev pub id_quad_cmp : IdQuad → IdQuad → Ordering
id_quad_cmp x y = key_cmp (key_in Spo x) (key_in Spo y)

-- a finite set of quads
abbrev pub IdQuads : Type 0
IdQuads = set.FinSet id_quad_cmp

-- the quads that have these keys in `Spo`
abbrev pub quads_of : List (List ℕ) → IdQuads
quads_of keys = set.from_list (map quad_of keys)

-- a bound place wants its number, a free one takes any
abbrev pub fits_place : Option ℕ → ℕ → Bool
fits_place None x = true
fits_place (Some n) x = x == n

-- the quad lies in the graph and has the numbers of the bound places
abbrev pub matches : ℕ → Option ℕ → Option ℕ → Option ℕ → IdQuad → Bool
matches g s p o q = (q.graph == g) && (fits_place s q.subject && (fits_place p q.predicate && fits_place o q.object))

-- the quad lies in the graph with this number, or in one with a greater number
abbrev pub is_from : ℕ → IdQuad → Bool
is_from g q = leb g q.graph

abbrev pub id_quad_code : Coded IdQuad
id_quad_code = code_by ((ℕ × ℕ) × (ℕ × ℕ)) (coded× (coded× coded_ℕ coded_ℕ) (coded× coded_ℕ coded_ℕ)) (λ q. ((q.graph, q.subject), (q.predicate, q.object))) (λ p. record { graph = p.0.0; subject = p.0.1; predicate = p.1.0; object = p.1.1 }) (λ _. refl)

abbrev pub id_quads_code : Coded IdQuads
id_quads_code = set.code id_quad_code
