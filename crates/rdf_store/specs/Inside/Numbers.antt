-- The numbers of terms, graphs and quads in a table, and what is kept of quads and names by their numbers.
use Rattle.std.specs.Prelude.{◌≡◌, ℕ, zero, suc, ◌==◌, List, [], ◌∷◌, ◌++◌, map, ⊤, Option, IsTrue, slice_get, unwrap_or}
use Rattle.std.specs.declared.cmp.Ordering.{Ordering}
use Rattle.std.specs.Ordering.{eq_by_cmp}
use Rattle.std.specs.FinSet as set
use Rattle.rdf_terms.specs.declared.term.Term.{Term}
use Rattle.rdf_terms.specs.declared.term.Term.TheVariants.{Blank}
use Rattle.rdf_terms.specs.declared.quad.GraphName.{GraphName}
use Rattle.rdf_terms.specs.declared.quad.GraphName.TheVariants.{Default, Named}
use Rattle.rdf_terms.specs.Quad.{QuadParts, is_quad}
use Rattle.rdf_terms.specs.Order.{graph_cmp}
use Rattle.rdf_terms.specs.Table.{IsIdOf}
use Rattle.rdf_orders.specs.Quads as ids
use Rattle.rdf_orders.specs.Quads.{IdQuad, quad_of}
use Rattle.rdf_orders.specs.Contents.{Contents}
use Rattle.rdf_store.specs.Stored.{Stored, fits_place}

-- ---- numbers

-- the default graph's number is 0, and that of a graph with a name is one more than its name's
abbrev pub IsGraphNumber : List Term → ℕ → GraphName → Type 0
IsGraphNumber table zero Default = ⊤
IsGraphNumber table zero (Named name) = ⊥
IsGraphNumber table (suc id) Default = ⊥
IsGraphNumber table (suc id) (Named name) = IsIdOf table id name

-- the numbers of a quad's graph and terms
pub record AreNumbersOf (table : List Term) (k : IdQuad) (q : QuadParts) : Type 0 where
  pub sound : IsTrue (is_quad q)
  pub graph : IsGraphNumber table k.graph q.graph
  pub subject : IsIdOf table k.subject q.subject
  pub predicate : IsIdOf table k.predicate q.predicate
  pub object : IsIdOf table k.object q.object

-- a term keeps its number
pub record IsGrown (old new : List Term) : Type 0 where
  pub keeps : (id : ℕ) (t : Term) → IsIdOf old id t → IsIdOf new id t

-- each of one list belongs to the one at its place in the other
abbrev pub Matched : {A B : Type 0} → (A → B → Type 0) → List A → List B → Type 0
Matched P [] [] = ⊤
Matched P [] (y ∷ ys) = ⊥
Matched P (x ∷ xs) [] = ⊥
Matched P (x ∷ xs) (y ∷ ys) = P x y × Matched P xs ys

-- the keys in `Spo` of these quads
abbrev pub AreKeys : List Term → List (List ℕ) → List QuadParts → Type 0
AreKeys table keys quads = Matched (λ k q. AreNumbersOf table (quad_of k) q) keys quads

-- the key in `Spo` of the quad has come behind others
pub record AppendsKey (table : List Term) (old new : List (List ℕ)) (q : QuadParts) : Type 0 where
  pub key : List ℕ
  pub numbers : AreNumbersOf table (quad_of key) q
  pub appended : new ≡ old ++ key ∷ []

-- the numbers of these terms
abbrev pub AreIds : List Term → List ℕ → List Term → Type 0
AreIds table numbers terms = Matched (λ id t. IsIdOf table id t) numbers terms

-- ---- what numbers stand for

abbrev pub term_at : List Term → ℕ → Term
term_at table id = unwrap_or (slice_get table id) (Blank 0)

abbrev pub graph_at : List Term → ℕ → GraphName
graph_at table zero = Default
graph_at table (suc id) = Named (term_at table id)

abbrev pub parts_at : List Term → IdQuad → QuadParts
parts_at table k = record {
  graph = graph_at table k.graph;
  subject = term_at table k.subject;
  predicate = term_at table k.predicate;
  object = term_at table k.object;
}

-- the quad that has this key in `Spo`
abbrev pub parts_of : List Term → List ℕ → QuadParts
parts_of table key = parts_at table (quad_of key)

-- the numbers are those of a quad
abbrev pub HasTerms : List Term → IdQuad → Type 0
HasTerms table k = AreNumbersOf table k (parts_at table k)

-- all that is there has its terms in the table
pub record HaveTerms (table : List Term) (c : Contents) : Type 0 where
  pub quads : (k : IdQuad) → IsTrue (set.contains c.quads k) → HasTerms table k
  pub names : (id : ℕ) → IsTrue (set.contains c.names id) → IsIdOf table id (term_at table id)

-- what a function makes of the members of a set
abbrev pub image : {A B : Type 0} {R : A → A → Ordering} {S : B → B → Ordering} → (A → B) → set.FinSet R → set.FinSet S
image f s = set.from_list (map f (set.items s))

-- the quads and names that the numbers stand for
abbrev pub shown : List Term → Contents → Stored
shown table c = record { quads = image (parts_at table) c.quads; names = image (term_at table) c.names }

-- ---- look-ups

-- just the numbers that fit are those of terms that fit
abbrev pub WantsSame : List Term → Option ℕ → Option Term → Type 0
WantsSame table number place = (id : ℕ) (t : Term) → IsIdOf table id t → ids.fits_place number id ≡ fits_place place t

abbrev pub WantsNone : List Term → Option Term → Type 0
WantsNone table place = (id : ℕ) (t : Term) → IsIdOf table id t → ¬ IsTrue (fits_place place t)

abbrev pub WantsSameGraph : List Term → ℕ → GraphName → Type 0
WantsSameGraph table number graph = (id : ℕ) (g : GraphName) → IsGraphNumber table id g → (id == number) ≡ eq_by_cmp graph_cmp graph g

abbrev pub WantsNoGraph : List Term → GraphName → Type 0
WantsNoGraph table graph = (id : ℕ) (g : GraphName) → IsGraphNumber table id g → ¬ IsTrue (eq_by_cmp graph_cmp graph g)
