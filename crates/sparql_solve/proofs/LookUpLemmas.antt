-- What look-ups find under a mapping.
use Rattle.std.proofs.Common.{◌≡◌, ℕ, Bool, true, false, cond, List, [], ◌∷◌, ◌++◌, map, refl, sym, ap, ◌∙◌, subst, length, take}
use Rattle.std.specs.List.{sum_by}
use Rattle.rdf_terms.specs.Quad.{QuadParts}
use Rattle.rdf_terms.specs.declared.quad.GraphName.{GraphName}
use Rattle.std.specs.FinSet as set
use Rattle.rdf_dataset.specs.State.{State, Quads, matches}
use Rattle.rdf_dataset.specs.Sorted.{ListsOnce}
use Rattle.sparql_values.specs.Mapping.{Mapping}
use Rattle.sparql_algebra.specs.Bags.{SameBag}
use Rattle.sparql_algebra.specs.Listing.{graph_quads}
use Rattle.sparql_algebra.proofs.CallerLemmas.{sum_by-cong, sum_by-filter, SameBag-refl, SameBag-map, SameBag-flat_map, found_quads}
use Rattle.sparql_solve.specs.declared.look_ups.LookUp.{LookUp}
use Rattle.sparql_solve.specs.declared.place.Places.{Places}
use Rattle.sparql_solve.specs.LookUps.{widened}
use Rattle.sparql_solve.specs.Matching.{AsksSame, matched, matches_of, stepped, matching, held, quads_under}
use Rattle.sparql_solve.specs.Sides.{found_in}
use Rattle.sparql_solve.specs.Members.{AreSolutions}
use Rattle.sparql_solve.proofs.FitLemmas.{terms_under, no_terms}
use Rattle.sparql_solve.proofs.MatchingLemmas.{num, sum_by-filter_map}

module _ (s : State) (g : GraphName) (p : Places) (m : Mapping) where
  others : (f : Mapping → ℕ) (q : QuadParts) (b : Bool) → terms_under p m q ≡ b → cond b (num (matched p m q) f) 0 ≡ num (matched p m q) f
  others f q true e = refl
  others f q false e = sym (ap (λ o. num o f) (no_terms p m q e))

  -- the triples with the terms of the bound places give what all of the graph give
  found_matches : (found quads : List QuadParts) → ListsOnce (quads_under s g p m) found → ListsOnce (graph_quads s g) quads →
      SameBag (matches_of found p m) (matches_of quads p m)
  found_matches found quads h k f =
      sum_by-filter_map f (matched p m) found
      ∙ found_quads s g (held m p.subject) (held m p.predicate) (held m p.object) found quads h k (λ q. num (matched p m q) f)
      ∙ sum_by-filter (λ q. num (matched p m q) f) (terms_under p m) quads
      ∙ sum_by-cong (λ q. cond (terms_under p m q) (num (matched p m q) f) 0) (λ q. num (matched p m q) f) quads (λ q. others f q (terms_under p m q) refl)
      ∙ sym (sum_by-filter_map f (matched p m) quads)

  pub look_up_gives : (found given : List QuadParts) (out : List Mapping) → ListsOnce (quads_under s g p m) found → given ≡ found → out ≡ matches_of given p m →
      AreSolutions s out (λ d. matches_of (d.quads g) p m)
  look_up_gives found given out h eg e d l =
      subst (λ xs. SameBag xs (matches_of (d.quads g) p m)) (sym (e ∙ ap (λ (qs : List QuadParts). matches_of qs p m) eg))
      (found_matches found (d.quads g) h (l.quads g))

-- under mappings that have the same at each place the same quads are looked up
pub same_quads : (s : State) (g : GraphName) (p : Places) (m n : Mapping) → AsksSame p m n → quads_under s g p m ≡ quads_under s g p n
same_quads s g p m n a = λ i. set.retain s.quads (matches g (a.subject i) (a.predicate i) (a.object i))

pub asked_before : (s : State) (g : GraphName) (p : Places) (m n : Mapping) (found : List QuadParts) → AsksSame p m n → ListsOnce (quads_under s g p m) found → ListsOnce (quads_under s g p n) found
asked_before s g p m n found a h = subst (λ (quads : Quads). ListsOnce quads found) (same_quads s g p m n a) h

pub looked_as : (s : State) (g : GraphName) (p : Places) (m : Mapping) (found given : List QuadParts) → given ≡ found → ListsOnce (quads_under s g p m) found →
    ListsOnce (quads_under s g p m) given
looked_as s g p m found given e h = subst (λ (quads : List QuadParts). ListsOnce (quads_under s g p m) quads) (sym e) h

-- ---- one triple pattern after another

pub SameBag-matching : (quads : List QuadParts) (ps : List Places) (ms ns : List Mapping) → SameBag ms ns → SameBag (matching quads ps ms) (matching quads ps ns)
SameBag-matching quads [] ms ns h = h
SameBag-matching quads (p ∷ ps) ms ns h =
    SameBag-matching quads ps (stepped quads ms p) (stepped quads ns p)
    (SameBag-flat_map (matches_of quads p) (matches_of quads p) ms ns h (λ m. SameBag-refl (matches_of quads p m)))

-- ---- under one row, in one graph

pub in_graph_gives : (s : State) (g : GraphName) (l : LookUp) (m wide values : Mapping) (n : ℕ) (given : List Places) (first start rows out : List Mapping) →
    given ≡ l.places → start ≡ first ++ wide ∷ [] → first ≡ [] → wide ≡ widened l.hidden m → AreSolutions s rows (λ d. matching (d.quads g) given start) →
    out ≡ map (take n) rows → n ≡ length values → values ≡ m → AreSolutions s out (λ d. found_in d l g m)
in_graph_gives s g l m wide values n given first start rows out eg es ef ew h eo en ev d k f =
    ap (sum_by f) (eo ∙ ap (λ (i : ℕ). map (take i) rows) (en ∙ ap length ev))
    ∙ SameBag-map (take (length m)) rows (matching (d.quads g) given start) (h d k) f
    ∙ ap (λ (ps : List Places). sum_by f (map (take (length m)) (matching (d.quads g) ps start))) eg
    ∙ ap (λ (ms : List Mapping). sum_by f (map (take (length m)) (matching (d.quads g) l.places ms)))
    (es ∙ ap (λ (ms : List Mapping). ms ++ wide ∷ []) ef ∙ ap (λ (w : Mapping). w ∷ []) ew)
