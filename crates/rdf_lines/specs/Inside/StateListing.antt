-- States as they are listed, and what reads their text from left to right.
use Rattle.std.specs.Prelude.{◌≡◌, ℕ, false, ◌<◌, ◌≤◌, ◌^◌, List, [], ◌∷◌, ◌++◌, codes, decimal, Bool, true, ◌&&◌, if◌then◌else◌, Option, None, Some, IsTrue, nat_eq, nat_le, nat_lt}
use Rattle.std.specs.List.{flat_map, list_all, list_any, AllByRecursion}
use Rattle.std.specs.List.Sorted.{IsStrictlySortedBy}
use Rattle.std.specs.Ordering.{is_lt, is_eq}
use Rattle.std.specs.declared.cmp.Ordering.{Ordering}
use Rattle.rdf_terms.specs.declared.term.Term.TheVariants.{Blank, Iri, Literal}
use Rattle.rdf_terms.specs.declared.quad.GraphName.{GraphName}
use Rattle.rdf_terms.specs.declared.quad.GraphName.TheVariants.{Default, Named}
use Rattle.rdf_terms.specs.declared.term.Term.{Term}
use Rattle.rdf_terms.specs.declared.quad.Quad.{Quad}
use Rattle.rdf_terms.specs.Below.{IsTermBelow, IsQuadBelow, AreBelow}
use Rattle.rdf_terms.specs.Order.{term_cmp, quad_cmp}
use Rattle.rdf_terms.specs.Quad.{is_quad}
use Rattle.rdf_lines.specs.QuadText.{quad_text}
use Rattle.rdf_lines.specs.StateText.{names_of, IsNamed, is_graph_name, last_number, name_line, state_text}

abbrev pub AreNames : List Term → Type 0
AreNames names = AllByRecursion (λ n. IsTrue (is_graph_name n)) names

abbrev pub AreQuads : List Quad → Type 0
AreQuads quads = AllByRecursion (λ q. IsTrue (is_quad q)) quads

-- the parts of a sound state, each once and in order
pub record IsSoundListing (next : ℕ) (names : List Term) (quads : List Quad) : Type 0 where
  pub names_rise : IsStrictlySortedBy term_cmp names
  pub quads_rise : IsStrictlySortedBy quad_cmp quads
  pub named : AllByRecursion (λ q. IsNamed (names_of names) q.graph) quads
  pub quads_below : AreBelow next quads
  pub names_below : AllByRecursion (IsTermBelow next) names
  pub limit : next ≤ last_number

-- ---- how that is tested

abbrev pub is_term_below : ℕ → Term → Bool
is_term_below next (Blank number) = nat_lt number next
is_term_below next (Iri text) = true
is_term_below next (Literal parts) = true

abbrev pub is_graph_below : ℕ → GraphName → Bool
is_graph_below next Default = true
is_graph_below next (Named name) = is_term_below next name

abbrev pub is_quad_below : ℕ → Quad → Bool
is_quad_below next q = is_graph_below next q.graph && (is_term_below next q.subject && (is_term_below next q.predicate && is_term_below next q.object))

-- behind the last item, each is greater than the one before it
abbrev pub rises : {K : Type 0} → (K → K → Ordering) → Option K → List K → Bool
rises R last [] = true
rises R None (y ∷ ys) = rises R (Some y) ys
rises R (Some x) (y ∷ ys) = is_lt (R x y) && rises R (Some y) ys

-- the names from the first on that isn't less than this one
abbrev pub names_from : Term → List Term → List Term
names_from name [] = []
names_from name (n ∷ ns) = if is_lt (term_cmp n name) then names_from name ns else n ∷ ns

abbrev pub is_first : Term → List Term → Bool
is_first name [] = false
is_first name (n ∷ ns) = is_eq (term_cmp n name)

abbrev pub after_graph : List Term → GraphName → List Term
after_graph names Default = names
after_graph names (Named name) = names_from name names

abbrev pub is_found : List Term → GraphName → Bool
is_found names Default = true
is_found names (Named name) = is_first name (names_from name names)

-- each graph has its name, where the names and the quads are in order
abbrev pub are_named : List Term → List Quad → Bool
are_named names [] = true
are_named names (q ∷ qs) = is_found names q.graph && are_named (after_graph names q.graph) qs

abbrev pub both_rise : List Term → List Quad → Bool
both_rise names quads = rises term_cmp None names && rises quad_cmp None quads

abbrev pub are_below : ℕ → List Term → List Quad → Bool
are_below next names quads = list_all (is_term_below next) names && list_all (is_quad_below next) quads

abbrev pub is_sound : ℕ → List Term → List Quad → Bool
is_sound next names quads = nat_le next last_number && (both_rise names quads && (are_below next names quads && are_named names quads))

-- ---- what stands at the front of a text

-- no LF in it
abbrev pub HasNoFeed : List ℕ → Type 0
HasNoFeed line = list_any (λ b. nat_eq b 10) line ≡ false

-- a line and what stands behind its LF, or no LF at all
abbrev pub IsFirstLine : List ℕ → List ℕ → List ℕ → Type 0
IsFirstLine text line behind = HasNoFeed line × (text ≡ line ++ 10 ∷ behind)

-- ---- the parts of a text, or that it has none

-- a counter and what stands behind its line
abbrev pub counted : ℕ → List ℕ → List ℕ
counted next more = codes "#% rdfkeep state 2\n" ++ (codes "#% next " ++ (decimal next ++ (codes "\n" ++ more)))

-- names, and what stands behind their lines, where no other name's line begins
abbrev pub AreNamesBefore : List ℕ → List Term → List ℕ → Type 0
AreNamesBefore text names behind = AreNames names × (text ≡ flat_map name_line names ++ behind) × ((more : List ℕ) → ¬ (behind ≡ codes "#% graph " ++ more))

abbrev pub HasNoNames : List ℕ → Type 0
HasNoNames text = (names : List Term) (quads : List Quad) → AreNames names → AreQuads quads → ¬ (text ≡ flat_map name_line names ++ flat_map quad_text quads)

-- the quads whose lines a text is
abbrev pub AreQuadsOf : List ℕ → List Quad → Type 0
AreQuadsOf text quads = AreQuads quads × (text ≡ flat_map quad_text quads)

abbrev pub HasNoQuads : List ℕ → Type 0
HasNoQuads text = (quads : List Quad) → AreQuads quads → ¬ (text ≡ flat_map quad_text quads)

-- the parts that a text writes, sound or not
pub record ArePartsOf (text : List ℕ) (next : ℕ) (names : List Term) (quads : List Quad) : Type 0 where
  pub right_names : AreNames names
  pub right_quads : AreQuads quads
  pub fits : next < 2 ^ 64
  pub writes : text ≡ state_text next names quads

abbrev pub HasNoParts : List ℕ → Type 0
HasNoParts text =
    (next : ℕ) (names : List Term) (quads : List Quad) → next < 2 ^ 64 → AreNames names → AreQuads quads → ¬ (text ≡ state_text next names quads)
