-- The quads of a triple pattern that were found once, whatever rows bind, and what rows make of them by the one end that they ask for.
use Rattle.std.specs.Prelude.{◌≡◌, Bool, true, false, not, ◌&&◌, List, [], ◌∷◌, cond, is_some}
use Rattle.rdf_terms.specs.Quad.{QuadParts}
use Rattle.rdf_terms.specs.declared.quad.GraphName.{GraphName}
use Rattle.rdf_terms.specs.declared.term.Term.{Term}
use Rattle.rdf_dataset.specs.Sorted.{ListsOnce}
use Rattle.rdf_dataset.specs.State.{State}
use Rattle.sparql_values.specs.Mapping.{Variables, Mapping, empty_mapping}
use Rattle.sparql_algebra.specs.Algebra.{Element, joined, optional, removed}
use Rattle.sparql_solve.specs.LookUps.{widened}
use Rattle.sparql_solve.specs.Matching.{held, matches_of, quads_under}
use Rattle.sparql_solve.specs.Under.{binds_none, masked, own_columns}
use Rattle.sparql_solve.specs.declared.look_ups.Graphs.TheVariants.{One}
use Rattle.sparql_solve.specs.declared.look_ups.LookUp.{LookUp}
use Rattle.sparql_solve.specs.declared.place.Place.{Place}
use Rattle.sparql_solve.specs.declared.place.Place.TheVariants.{Fixed, Column, Nowhere}
use Rattle.sparql_solve.specs.declared.place.Places.{Places}

-- the quads are those of the only triple pattern in the only graph, each once
pub record AreFound (vs : Variables) (s : State) (l : LookUp) (quads : List QuadParts) : Type 0 where
  pub graph : GraphName
  pub places : Places
  pub in_graph : l.graphs ≡ One graph
  pub alone : l.places ≡ places ∷ []
  pub listed : ListsOnce (quads_under s graph places (widened l.hidden (empty_mapping vs))) quads

abbrev pub end_of : Bool → Places → Place
end_of true p = p.subject
end_of false p = p.object

abbrev pub end_term : Bool → QuadParts → Term
end_term true q = q.subject
end_term false q = q.object

-- the mapping has nothing at the place but a term of the place's own
abbrev pub free_at : Place → Mapping → Bool
free_at (Fixed t) m = true
free_at (Column c) m = not (is_some (held m (Column c)))
free_at Nowhere m = true

-- the mapping asks for nothing but the one end
abbrev pub asks_end : Bool → Places → Mapping → Bool
asks_end b p m = free_at p.predicate m && free_at (end_of (not b) p) m

-- what a mapping makes of the quads that counts for it: of MINUS's nothing, where it has none of the look-ups' variables
abbrev pub beside : Variables → LookUp → Places → List QuadParts → Element → Mapping → List Mapping
beside vs l p quads (joined A) x = matches_of quads p x
beside vs l p quads (optional F A) x = matches_of quads p x
beside vs l p quads (removed A) x = cond (binds_none (masked (own_columns vs l) x)) [] (matches_of quads p x)

-- the element makes of a mapping all of its merges that count, without a condition
abbrev pub has_no_condition : Element → Bool
has_no_condition (joined A) = true
has_no_condition (optional [] A) = true
has_no_condition (optional (x ∷ F) A) = false
has_no_condition (removed A) = true
