-- Triples that move into rows, and what is looked up once for all rows.
use Rattle.std.proofs.Common.{◌≡◌, ℕ, ◌+◌, true, List, [], ◌∷◌, ◌++◌, map, take, length, refl, subst, sym, ap, ◌∙◌, arith, append_assoc, append-nil, length-append, Option, Some, None}
use Rattle.std.specs.List.{cons_option, list_all, sum_by, IsLastAndRest}
use Rattle.std.proofs.lemmas.List.{length-replicate}
use Rattle.std.proofs.lemmas.List.Folds.{list_all-append}
use Rattle.rdf_terms.specs.Quad.{QuadParts}
use Rattle.rdf_terms.specs.declared.term.Term.{Term}
use Rattle.rdf_terms.specs.declared.quad.GraphName.{GraphName}
use Rattle.rdf_dataset.specs.Sorted.{ListsOnce}
use Rattle.rdf_dataset.specs.State.{State}
use Rattle.sparql_values.specs.Mapping.{Variables, Mapping, empty_mapping}
use Rattle.sparql_algebra.proofs.CallerLemmas.{and_left, and_right, SameBag-map}
use Rattle.sparql_solve.specs.declared.look_ups.Graphs.{Graphs}
use Rattle.sparql_solve.specs.declared.look_ups.Graphs.TheVariants.{One}
use Rattle.sparql_solve.specs.declared.look_ups.LookUp.{LookUp}
use Rattle.sparql_solve.specs.declared.place.Places.{Places}
use Rattle.sparql_solve.specs.LookUps.{widened}
use Rattle.sparql_solve.specs.Matching.{has_held, matched, matches_of, matching, quads_under}
use Rattle.sparql_solve.specs.Members.{AreSolutions}
use Rattle.sparql_solve.specs.Partners.{AreFound}
use Rattle.sparql_solve.specs.Sides.{found, found_among}
use Rattle.sparql_solve.proofs.FitLemmas.{listed_held}
use Rattle.sparql_solve.proofs.LookUpLemmas.{look_up_gives}

pub split_off : {X : Type 0} (xs rest : List X) (x : X) → xs ≡ rest ++ x ∷ [] → IsLastAndRest xs x rest
split_off xs rest x e = (e, (let z : length rest + 1 ≡ length xs = omega (arith, ap length e, length-append rest (x ∷ [])) in z))

pub held_others : (p : Places) (m : Mapping) (qs others : List QuadParts) (last : QuadParts) → IsLastAndRest qs last others →
    list_all (has_held p m) qs ≡ true → list_all (has_held p m) others ≡ true
held_others p m qs others last h a =
    and_left (list_all (has_held p m) others) (list_all (has_held p m) (last ∷ []))
    (sym (list_all-append (has_held p m) others (last ∷ [])) ∙ sym (ap (list_all (has_held p m)) h.0) ∙ a)

-- what one triple pattern finds under the mapping that binds nothing, without the hidden columns
pub few_gives : (vs : Variables) (s : State) (g : GraphName) (l : LookUp) (p : Places) (m wide : Mapping) (n : ℕ) (rows out : List Mapping) →
    l.graphs ≡ One g → l.places ≡ p ∷ [] → m ≡ empty_mapping vs → wide ≡ widened l.hidden m →
    AreSolutions s rows (λ d. matches_of (d.quads g) p wide) → out ≡ map (take n) rows → n ≡ length vs →
    AreSolutions s out (λ d. found vs d l (empty_mapping vs))
few_gives vs s g l p m wide n rows out eg ep em ew h eo en d k f =
    let nothing : Mapping = empty_mapping vs in
    let start : Mapping = widened l.hidden nothing in
    let long : n ≡ length nothing = en ∙ sym (length-replicate {A = Option Term} (length vs) None) in
    ap (sum_by f) (eo ∙ ap (λ (i : ℕ). map (take i) rows) long)
    ∙ SameBag-map (take (length nothing)) rows (matches_of (d.quads g) p wide) (h d k) f
    ∙ ap (λ (w : Mapping). sum_by f (map (take (length nothing)) (matches_of (d.quads g) p w))) (ew ∙ ap (widened l.hidden) em)
    ∙ ap (λ (ms : List Mapping). sum_by f (map (take (length nothing)) ms)) (sym (append-nil (matches_of (d.quads g) p start)))
    ∙ ap (λ (ps : List Places). sum_by f (map (take (length nothing)) (matching (d.quads g) ps (start ∷ [])))) (sym ep)
    ∙ ap (λ (gs : Graphs). sum_by f (found_among vs d l gs nothing)) (sym eg)

-- ---- one triple after another

module _ (p : Places) (m : Mapping) (q : QuadParts) (rest items : List QuadParts) (e : items ≡ q ∷ rest) where
  pub held_first : list_all (has_held p m) items ≡ true → has_held p m q ≡ true
  held_first h = and_left (has_held p m q) (list_all (has_held p m) rest) (sym (ap (list_all (has_held p m)) e) ∙ h)

  pub held_rest : list_all (has_held p m) items ≡ true → list_all (has_held p m) rest ≡ true
  held_rest h = and_right (has_held p m q) (list_all (has_held p m) rest) (sym (ap (list_all (has_held p m)) e) ∙ h)

  module _ (out total : List Mapping) (h : out ++ matches_of items p m ≡ total) where
    grown_so_far : out ++ cons_option (matched p m q) (matches_of rest p m) ≡ total
    grown_so_far = ap (λ (qs : List QuadParts). out ++ matches_of qs p m) (sym e) ∙ h

    pub grown_by : (k : Mapping) (after : List Mapping) → matched p m q ≡ Some k → after ≡ out ++ k ∷ [] → after ++ matches_of rest p m ≡ total
    grown_by k after f g =
        ap (λ (l : List Mapping). l ++ matches_of rest p m) g ∙ append_assoc out (k ∷ []) (matches_of rest p m)
        ∙ ap (λ (o : Option Mapping). out ++ cons_option o (matches_of rest p m)) (sym f) ∙ grown_so_far

    pub grown_by_none : matched p m q ≡ None → out ++ matches_of rest p m ≡ total
    grown_by_none f = ap (λ (o : Option Mapping). out ++ cons_option o (matches_of rest p m)) (sym f) ∙ grown_so_far

-- ---- quads that were found once

module _ (vs : Variables) (s : State) (l : LookUp) (p : Places) (m wide : Mapping) (quads : List QuadParts) (is : AreFound vs s l quads) (alone : l.places ≡ p ∷ [])
    (em : m ≡ empty_mapping vs) (ew : wide ≡ widened l.hidden m) where
  the_places : is.places ≡ p
  the_places = first_is is.places p (sym is.alone ∙ alone)
    where
      first_is : (x y : Places) → x ∷ [] ≡ y ∷ [] → x ≡ y
      first_is x y e = cc

  found_listed : ListsOnce (quads_under s is.graph p wide) quads
  found_listed =
      subst (λ (w : Mapping). ListsOnce (quads_under s is.graph p w) quads) (sym (ew ∙ ap (widened l.hidden) em))
      (subst (λ (q : Places). ListsOnce (quads_under s is.graph q (widened l.hidden (empty_mapping vs))) quads) the_places is.listed)

  pub found_had : list_all (has_held p wide) quads ≡ true
  found_had = listed_held s is.graph p wide quads quads found_listed refl

  pub found_gives : (n : ℕ) (rows out : List Mapping) → rows ≡ matches_of quads p wide → out ≡ map (take n) rows → n ≡ length vs →
      AreSolutions s out (λ d. found vs d l (empty_mapping vs))
  found_gives n rows out er eo en =
      few_gives vs s is.graph l p m wide n rows out is.in_graph alone em ew (look_up_gives s is.graph p wide quads quads rows found_listed refl er) eo en
