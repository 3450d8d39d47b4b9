-- A row that is matched keeps its columns.
use Rattle.std.proofs.Common.{◌≡◌, ℕ, Bool, true, false, cond, List, [], ◌∷◌, ◌++◌, map, Option, Some, None, IfSome, refl, sym, ap, ◌∙◌, subst, length, take, append-nil, arith}
use Rattle.std.specs.Prelude.{slice_get, option_and_then}
use Rattle.std.specs.List.{cons_option, sum_by}
use Rattle.std.proofs.lemmas.List.{length-set, take_all}
use Rattle.rdf_terms.specs.Quad.{QuadParts}
use Rattle.rdf_terms.specs.declared.term.Term.{Term}
use Rattle.rdf_terms.specs.declared.quad.GraphName.{GraphName}
use Rattle.rdf_dataset.specs.State.{State}
use Rattle.sparql_values.specs.Mapping.{Variables, Mapping, same_term}
use Rattle.sparql_algebra.specs.Listing.{Listing}
use Rattle.sparql_solve.specs.declared.look_ups.Graphs.{Graphs}
use Rattle.sparql_solve.specs.declared.look_ups.Graphs.TheVariants.{One}
use Rattle.sparql_solve.specs.declared.look_ups.LookUp.{LookUp}
use Rattle.sparql_solve.specs.declared.place.Place.{Place}
use Rattle.sparql_solve.specs.declared.place.Place.TheVariants.{Fixed, Column, Nowhere}
use Rattle.sparql_solve.specs.declared.place.Places.{Places}
use Rattle.sparql_solve.specs.LookUps.{widened}
use Rattle.sparql_solve.specs.Matching.{assigned, assigned_at, matched, matches_of, matching}
use Rattle.sparql_solve.specs.Members.{AreSolutions}
use Rattle.sparql_solve.specs.Sides.{found, found_among, found_in}

keeps_cond : (b : Bool) (m : Mapping) → IfSome (cond b (Some m) None) (λ k. length k ≡ length m)
keeps_cond true m = refl
keeps_cond false m = tt

keeps_at : (m : Mapping) (c : ℕ) (u : Term) (o : Option (Option Term)) → IfSome (assigned_at m c u o) (λ k. length k ≡ length m)
keeps_at m c u (Some (Some t)) = keeps_cond (same_term t u) m
keeps_at m c u (Some None) = length-set m c (Some u)
keeps_at m c u None = tt

keeps : (m : Mapping) (x : Place) (u : Term) (n : ℕ) → length m ≡ n → IfSome (assigned m x u) (λ k. length k ≡ n)
keeps m (Fixed t) u n e = subst (λ i. IfSome (cond (same_term t u) (Some m) None) (λ k. length k ≡ i)) e (keeps_cond (same_term t u) m)
keeps m (Column c) u n e = subst (λ i. IfSome (assigned_at m c u (slice_get m c)) (λ k. length k ≡ i)) e (keeps_at m c u (slice_get m c))
keeps m Nowhere u n e = tt

keeps_then : (n : ℕ) (o : Option Mapping) (f : Mapping → Option Mapping) → IfSome o (λ k. length k ≡ n) →
    ((k : Mapping) → length k ≡ n → IfSome (f k) (λ j. length j ≡ n)) → IfSome (option_and_then f o) (λ j. length j ≡ n)
keeps_then n None f h each = tt
keeps_then n (Some k) f h each = each k h

pub matched_keeps : (p : Places) (m : Mapping) (q : QuadParts) → IfSome (matched p m q) (λ k. length k ≡ length m)
matched_keeps p m q =
    keeps_then (length m) (assigned m p.predicate q.predicate) (λ k. option_and_then (λ j. assigned j p.object q.object) (assigned k p.subject q.subject))
    (keeps m p.predicate q.predicate (length m) refl)
    (λ k e. keeps_then (length m) (assigned k p.subject q.subject) (λ j. assigned j p.object q.object) (keeps k p.subject q.subject (length m) e)
    (λ j e2. keeps j p.object q.object (length m) e2))

-- so there is nothing to be cut where no columns are hidden
cut_matches : (quads : List QuadParts) (p : Places) (m : Mapping) → map (take (length m)) (matches_of quads p m) ≡ matches_of quads p m
cut_matches [] p m = refl
cut_matches (q ∷ quads) p m = by_case (matched p m q) (matched_keeps p m q) (cut_matches quads p m)
  where
    by_case : (o : Option Mapping) → IfSome o (λ k. length k ≡ length m) → map (take (length m)) (matches_of quads p m) ≡ matches_of quads p m →
        map (take (length m)) (cons_option o (matches_of quads p m)) ≡ cons_option o (matches_of quads p m)
    by_case None e r = r
    by_case (Some k) e r =
        ap (λ (x : Mapping). x ∷ map (take (length m)) (matches_of quads p m)) (take_all (length m) k (omega (arith, e))) ∙ ap (λ (xs : List Mapping). k ∷ xs) r

lone_matches : (quads : List QuadParts) (p : Places) (m : Mapping) → map (take (length m)) (matching quads (p ∷ []) (widened 0 m ∷ [])) ≡ matches_of quads p m
lone_matches quads p m =
    ap (map (take (length m))) (append-nil (matches_of quads p (m ++ [])) ∙ ap (matches_of quads p) (append-nil m)) ∙ cut_matches quads p m

pub lone_found : (vs : Variables) (d : Listing) (g : GraphName) (l : LookUp) (m : Mapping) (p : Places) → l.graphs ≡ One g → l.places ≡ p ∷ [] → l.hidden ≡ 0 →
    matches_of (d.quads g) p m ≡ found vs d l m
lone_found vs d g l m p eg ep eh =
    sym (lone_matches (d.quads g) p m)
    ∙ ap (λ (i : ℕ). map (take (length m)) (matching (d.quads g) (p ∷ []) (widened i m ∷ []))) (sym eh)
    ∙ ap (λ (ps : List Places). map (take (length m)) (matching (d.quads g) ps (widened l.hidden m ∷ []))) (sym ep)
    ∙ ap (λ (gs : Graphs). found_among vs d l gs m) (sym eg)

pub lone_gives : (s : State) (g : GraphName) (l : LookUp) (m : Mapping) (p : Places) (out : List Mapping) → l.places ≡ p ∷ [] → l.hidden ≡ 0 →
    AreSolutions s out (λ d. matches_of (d.quads g) p m) → AreSolutions s out (λ d. found_in d l g m)
lone_gives s g l m p out ep eh h d k f =
    h d k f ∙ ap (sum_by f) (sym (lone_matches (d.quads g) p m))
    ∙ ap (λ (i : ℕ). sum_by f (map (take (length m)) (matching (d.quads g) (p ∷ []) (widened i m ∷ [])))) (sym eh)
    ∙ ap (λ (ps : List Places). sum_by f (map (take (length m)) (matching (d.quads g) ps (widened l.hidden m ∷ [])))) (sym ep)
