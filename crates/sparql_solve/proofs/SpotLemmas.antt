-- What a place had in a mapping when triples were looked up, it has when its term comes.
use Rattle.std.proofs.Common.{◌≡◌, ℕ, zero, suc, Bool, true, false, cond, [], ◌∷◌, Option, Some, None, refl, sym, ap, ◌∙◌, is_some, subst, nat_eq}
use Rattle.std.proofs.lemmas.Bool.{eqb-false}
use Rattle.std.specs.Prelude.{option_and_then, slice_get, slice_set, ⊤}
use Rattle.rdf_terms.specs.declared.term.Term.{Term}
use Rattle.rdf_terms.specs.Quad.{QuadParts}
use Rattle.rdf_dataset.specs.State.{fits_place}
use Rattle.sparql_values.specs.Mapping.{Mapping, same_term}
use Rattle.sparql_solve.specs.Grown.{IsPut, behind, free_or_asked, spot_of, spots_in}
use Rattle.sparql_solve.specs.Matching.{assigned, assigned_at, held, is_place_at, matched, vacant, vacant_at}
use Rattle.sparql_solve.specs.declared.grown.Spot.{Spot}
use Rattle.sparql_solve.specs.declared.grown.Spot.TheVariants.{Known, Free, Asked}
use Rattle.sparql_solve.specs.declared.grown.Spots.{Spots}
use Rattle.sparql_solve.specs.declared.place.Place.{Place}
use Rattle.sparql_solve.specs.declared.place.Place.TheVariants.{Fixed, Column, Nowhere}
use Rattle.sparql_solve.specs.declared.place.Places.{Places}
use Rattle.sparql_solve.proofs.FitLemmas.{IsReady, ready_first, ready_next, ready_taken}

is_it : {X : Type 0} {x y : X} → Some x ≡ Some y → x ≡ y
is_it e = cc

-- ---- a column that has nothing

pub vacant_put : (m : Mapping) (x : Place) (c : ℕ) (u : Term) → vacant m x ≡ Some c → assigned m x u ≡ Some (slice_set m c (Some u))
vacant_put m (Fixed t) c u h = cc
vacant_put m (Column d) c u h = at (slice_get m d) h
  where
    at : (o : Option (Option Term)) → vacant_at d o ≡ Some c → assigned_at m d u o ≡ Some (slice_set m c (Some u))
    at (Some (Some t)) e = cc
    at (Some None) e = ap (λ (n : ℕ). Some (slice_set m n (Some u))) (is_it e)
    at None e = cc
vacant_put m Nowhere c u h = cc

set_elsewhere : (m : Mapping) (c d : ℕ) (v : Term) → (c ≡ d → ⊥) → slice_get (slice_set m d (Some v)) c ≡ slice_get m c
set_elsewhere [] c d v n = refl
set_elsewhere (x ∷ m) zero zero v n = absurd (n refl)
set_elsewhere (x ∷ m) (suc c) zero v n = refl
set_elsewhere (x ∷ m) zero (suc d) v n = refl
set_elsewhere (x ∷ m) (suc c) (suc d) v n = set_elsewhere m c d v (λ e. n (ap suc e))

module _ (k l : Mapping) (c : ℕ) (r : slice_get k c ≡ Some None) where
  free_same : (b : Bool) → cond b (Some k) None ≡ Some l → slice_get l c ≡ Some None
  free_same true e = subst (λ (w : Mapping). slice_get w c ≡ Some None) (is_it e) r
  free_same false e = cc

  free_column : (d : ℕ) (v : Term) (o : Option (Option Term)) → nat_eq c d ≡ false → assigned_at k d v o ≡ Some l → slice_get l c ≡ Some None
  free_column d v (Some (Some t)) n e = free_same (same_term t v) e
  free_column d v (Some None) n e = subst (λ (w : Mapping). slice_get w c ≡ Some None) (is_it e) (set_elsewhere k c d v (eqb-false c d n) ∙ r)
  free_column d v None n e = cc

  free_place : (y : Place) (v : Term) → is_place_at c y ≡ false → assigned k y v ≡ Some l → slice_get l c ≡ Some None
  free_place (Fixed t) v n e = free_same (same_term t v) e
  free_place (Column d) v n e = free_column d v (slice_get k d) n e
  free_place Nowhere v n e = cc

stays_vacant : (k l : Mapping) (x y : Place) (c : ℕ) (v : Term) → vacant k x ≡ Some c → is_place_at c y ≡ false → assigned k y v ≡ Some l → vacant l x ≡ Some c
stays_vacant k l (Fixed t) y c v h n e = cc
stays_vacant k l (Column d) y c v h n e = at (slice_get k d) refl h
  where
    at : (o : Option (Option Term)) → slice_get k d ≡ o → vacant_at d o ≡ Some c → vacant_at d (slice_get l d) ≡ Some c
    at (Some (Some t)) g z = cc
    at (Some None) g z =
        ap (vacant_at d) (free_place k l d g y v (subst (λ (w : ℕ). is_place_at w y ≡ false) (sym (is_it z)) n) e) ∙ z
    at None g z = cc
stays_vacant k l Nowhere y c v h n e = cc

-- ---- what is told of a place

-- the column that it tells has nothing
abbrev IsOpen : Spot → Mapping → Place → Type 0
IsOpen Known k x = ⊤
IsOpen (Free c) k x = vacant k x ≡ Some c
IsOpen Asked k x = ⊤

open_first : (m : Mapping) (x : Place) → IsOpen (spot_of m x) m x
open_first m x = at (is_some (held m x)) (vacant m x) refl
  where
    at : (b : Bool) (o : Option ℕ) → vacant m x ≡ o → IsOpen (cond b Known (free_or_asked o)) m x
    at true o e = tt
    at false None e = tt
    at false (Some c) e = e

open_next : (s : Spot) (k l : Mapping) (x y : Place) (v : Term) → IsOpen s k x → assigned k y v ≡ Some l → IsOpen (behind s y) l x
open_next Known k l x y v h e = tt
open_next (Free c) k l x y v h e = at (is_place_at c y) refl
  where
    at : (b : Bool) → is_place_at c y ≡ b → IsOpen (cond b Asked (Free c)) l x
    at true n = tt
    at false n = stays_vacant k l x y c v h n e
open_next Asked k l x y v h e = tt

known_first : (m : Mapping) (x : Place) → spot_of m x ≡ Known → is_some (held m x) ≡ true
known_first m x h = at (is_some (held m x)) (vacant m x) h
  where
    at : (b : Bool) (o : Option ℕ) → cond b Known (free_or_asked o) ≡ Known → b ≡ true
    at true o e = refl
    at false None e = cc
    at false (Some c) e = cc

known_behind : (s : Spot) (y : Place) → behind s y ≡ Known → s ≡ Known
known_behind Known y h = refl
known_behind (Free c) y h = at (is_place_at c y) h
  where
    at : (b : Bool) → cond b Asked (Free c) ≡ Known → Free c ≡ Known
    at true e = cc
    at false e = e
known_behind Asked y h = h

put_of : (m k : Mapping) (x : Place) (u : Term) (s : Spot) → (s ≡ Known → is_some (held m x) ≡ true) → IsOpen s k x → IsReady m k x u → IsPut s k x u
put_of m k x u Known h o r = ready_taken m k x u (is_some (held m x)) refl (h refl) r
put_of m k x u (Free c) h o r = o
put_of m k x u Asked h o r = tt

module _ (m : Mapping) (p : Places) (s : Spots) (e : s ≡ spots_in p m) where
  pub put_predicate : (u : Term) → fits_place (held m p.predicate) u ≡ true → IsPut s.predicate m p.predicate u
  put_predicate u f =
      subst (λ (z : Spots). IsPut z.predicate m p.predicate u) (sym e)
      (put_of m m p.predicate u (spot_of m p.predicate) (known_first m p.predicate) (open_first m p.predicate) (ready_first m m p.predicate u refl f))

  pub put_subject : (u v : Term) (k : Mapping) → fits_place (held m p.subject) u ≡ true → assigned m p.predicate v ≡ Some k → IsPut s.subject k p.subject u
  put_subject u v k f a =
      let first : Spot = spot_of m p.subject in
      subst (λ (z : Spots). IsPut z.subject k p.subject u) (sym e)
      (put_of m k p.subject u (behind first p.predicate) (λ h. known_first m p.subject (known_behind first p.predicate h))
      (open_next first m k p.subject p.predicate v (open_first m p.subject) a)
      (ready_next m m k p.subject p.predicate u v (ready_first m m p.subject u refl f) a))

  pub put_object : (u v w : Term) (k l : Mapping) → fits_place (held m p.object) u ≡ true → assigned m p.predicate v ≡ Some k →
      assigned k p.subject w ≡ Some l → IsPut s.object l p.object u
  put_object u v w k l f a b =
      let first : Spot = spot_of m p.object in
      let next : Spot = behind first p.predicate in
      subst (λ (z : Spots). IsPut z.object l p.object u) (sym e)
      (put_of m l p.object u (behind next p.subject) (λ h. known_first m p.object (known_behind first p.predicate (known_behind next p.subject h)))
      (open_next next k l p.object p.subject w (open_next first m k p.object p.predicate v (open_first m p.object) a) b)
      (ready_next m k l p.object p.subject u w (ready_next m m k p.object p.predicate u v (ready_first m m p.object u refl f) a) b))

-- what three places take one after another matches
pub all_put : (m k l n : Mapping) (p : Places) (q : QuadParts) → assigned m p.predicate q.predicate ≡ Some k → assigned k p.subject q.subject ≡ Some l →
    assigned l p.object q.object ≡ Some n → matched p m q ≡ Some n
all_put m k l n p q a b c =
    ap (option_and_then (λ (j : Mapping). option_and_then (λ (i : Mapping). assigned i p.object q.object) (assigned j p.subject q.subject))) a
    ∙ ap (option_and_then (λ (i : Mapping). assigned i p.object q.object)) b ∙ c
