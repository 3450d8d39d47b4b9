-- How a basic graph pattern is matched: one triple pattern after another, under each mapping so far.
use Rattle.std.specs.Prelude.{◌≡◌, ℕ, ◌+◌, Bool, false, ◌&&◌, ◌||◌, cond, List, length, Option, Some, None, nat_eq, slice_get, slice_set, option_and_then}
use Rattle.std.specs.List.{fold, filter_map, flat_map}
use Rattle.std.specs.FinSet as set
use Rattle.rdf_terms.specs.Quad.{QuadParts}
use Rattle.rdf_terms.specs.declared.quad.GraphName.{GraphName}
use Rattle.rdf_dataset.specs.State.{State, Quads, fits_place, matches}
use Rattle.rdf_terms.specs.declared.term.Term.{Term}
use Rattle.sparql_trees.specs.declared.pattern.TriplePattern.{TriplePattern}
use Rattle.sparql_trees.specs.declared.pattern.VarOrTerm.{VarOrTerm}
use Rattle.sparql_trees.specs.declared.pattern.VarOrTerm.TheVariants as x
use Rattle.sparql_values.specs.Mapping.{Variables, Mapping, same_term, column, value_at}
use Rattle.sparql_algebra.specs.Solutions.{var_or_term}
use Rattle.sparql_solve.specs.declared.place.Place.{Place}
use Rattle.sparql_solve.specs.declared.place.Place.TheVariants.{Fixed, Column, Nowhere}
use Rattle.sparql_solve.specs.declared.place.Places.{Places}

abbrev pub place_by : Option ℕ → Place
place_by None = Nowhere
place_by (Some c) = Column c

-- where a variable, a hidden variable or a term gets its value, the variables standing in this order before the hidden ones
abbrev pub place_of : Variables → VarOrTerm → Place
place_of vs (x.Variable name) = place_by (column vs name)
place_of vs (x.Hidden number) = Column (length vs + number)
place_of vs (x.Term t) = Fixed t

abbrev pub places_of : Variables → TriplePattern → Places
places_of vs p = record {
  subject = place_of vs p.subject;
  predicate = place_of vs (var_or_term p.predicate);
  object = place_of vs p.object;
}

-- the place is the column
abbrev pub is_place_at : ℕ → Place → Bool
is_place_at at (Fixed t) = false
is_place_at at (Column c) = nat_eq at c
is_place_at at Nowhere = false

-- one of the places is the column
abbrev pub has_column : ℕ → Places → Bool
has_column at p = is_place_at at p.subject || (is_place_at at p.predicate || is_place_at at p.object)

abbrev pub assigned_at : Mapping → ℕ → Term → Option (Option Term) → Option Mapping
assigned_at m c u (Some (Some t)) = cond (same_term t u) (Some m) None
assigned_at m c u (Some None) = Some (slice_set m c (Some u))
assigned_at m c u None = None

abbrev pub vacant_at : ℕ → Option (Option Term) → Option ℕ
vacant_at c (Some (Some t)) = None
vacant_at c (Some None) = Some c
vacant_at c None = None

-- the column of the place, where it has nothing
abbrev pub vacant : Mapping → Place → Option ℕ
vacant m (Fixed t) = None
vacant m (Column c) = vacant_at c (slice_get m c)
vacant m Nowhere = None

-- the mapping with this term at the place, where no other one stands there
abbrev pub assigned : Mapping → Place → Term → Option Mapping
assigned m (Fixed t) u = cond (same_term t u) (Some m) None
assigned m (Column c) u = assigned_at m c u (slice_get m c)
assigned m Nowhere u = None

-- the mapping with what a triple pattern binds, where it has this triple as its instance
abbrev pub matched : Places → Mapping → QuadParts → Option Mapping
matched p m q =
    option_and_then (λ k. option_and_then (λ l. assigned l p.object q.object) (assigned k p.subject q.subject))
    (assigned m p.predicate q.predicate)

abbrev pub matches_of : List QuadParts → Places → Mapping → List Mapping
matches_of quads p m = filter_map (matched p m) quads

abbrev pub stepped : List QuadParts → List Mapping → Places → List Mapping
stepped quads ms p = flat_map (matches_of quads p) ms

-- the mappings that grow from these
abbrev pub matching : List QuadParts → List Places → List Mapping → List Mapping
matching quads ps ms = fold (stepped quads) ms ps

-- ---- look-ups

-- the term that the place has in the mapping
abbrev pub held : Mapping → Place → Option Term
held m (Fixed t) = Some t
held m (Column c) = value_at m c
held m Nowhere = None

-- the quad has each of these terms
abbrev pub has_held : Places → Mapping → QuadParts → Bool
has_held p m q = fits_place (held m p.subject) q.subject && (fits_place (held m p.predicate) q.predicate && fits_place (held m p.object) q.object)

-- the quads of a graph that have the terms which the mapping has at the places
abbrev pub quads_under : State → GraphName → Places → Mapping → Quads
quads_under s g p m = set.retain s.quads (matches g (held m p.subject) (held m p.predicate) (held m p.object))

-- the mappings have the same at each place
pub record AsksSame (p : Places) (m n : Mapping) : Type 0 where
  pub subject : held m p.subject ≡ held n p.subject
  pub predicate : held m p.predicate ≡ held n p.predicate
  pub object : held m p.object ≡ held n p.object
