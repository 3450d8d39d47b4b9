-- A term that a place of a row refuses, it refuses in each row that grows from that one.
use Rattle.std.proofs.Common.{◌≡◌, ℕ, zero, suc, ◌<◌, Bool, true, false, cond, ◌&&◌, ◌||◌, List, [], ◌∷◌, length, get_or, Option, Some, None, refl, sym, ap, ◌∙◌, is_some, subst}
use Rattle.std.specs.Prelude.{IfSome, slice_get, slice_set, option_and_then}
use Rattle.std.specs.List.{list_all, list_any, IsLastAndRest}
use Rattle.std.specs.Ordering.{eq_by_cmp, is_eq}
use Rattle.std.specs.Cmp.{tied_itself}
use Rattle.std.specs.FinSet as set
use Rattle.std.specs.FinSet.{contains-from_list, contains-retain}
use Rattle.std.proofs.lemmas.List.Folds.{list_all_at, list_all-append}
use mathlib.Core.Bool.{true≢false}
use Rattle.rdf_dataset.specs.State.{State, fits_place, matches}
use Rattle.rdf_dataset.specs.Sorted.{ListsOnce}
use Rattle.rdf_terms.specs.Order.{graph_cmp, quad_cmp}
use Rattle.rdf_terms.specs.OrderLaws.{quad_cmp_total, quad_cmp-IsAntisymmetric}
use Rattle.rdf_terms.specs.declared.quad.GraphName.{GraphName}
use Rattle.rdf_terms.specs.Quad.{QuadParts}
use Rattle.rdf_terms.specs.declared.term.Term.{Term}
use Rattle.sparql_values.specs.Mapping.{Mapping, same_term, value_at}
use Rattle.sparql_algebra.proofs.CallerLemmas.{and_left, and_right, has_terms}
use Rattle.sparql_solve.specs.Matching.{assigned_at, assigned, matched, held, has_held, quads_under}
use Rattle.sparql_solve.specs.declared.place.Place.{Place}
use Rattle.sparql_solve.specs.declared.place.Place.TheVariants.{Fixed, Column, Nowhere}
use Rattle.sparql_solve.specs.declared.place.Places.{Places}

-- whether a column that has this may have the term
abbrev admits : Option (Option Term) → Term → Bool
admits (Some (Some t)) u = same_term t u
admits (Some None) u = true
admits None u = false

some_where : {X : Type 0} (b : Bool) (x : X) → is_some (cond b (Some x) None) ≡ b
some_where true x = refl
some_where false x = refl

assigned_admits : (m : Mapping) (c : ℕ) (u : Term) (o : Option (Option Term)) → is_some (assigned_at m c u o) ≡ admits o u
assigned_admits m c u (Some (Some t)) = some_where (same_term t u) m
assigned_admits m c u (Some None) = refl
assigned_admits m c u None = refl

set_refuses : (m : Mapping) (c d : ℕ) (u v : Term) → slice_get m d ≡ Some None → admits (slice_get m c) u ≡ false →
    admits (slice_get (slice_set m d (Some v)) c) u ≡ false
set_refuses [] c d u v h r = cc
set_refuses (x ∷ m) zero zero u v h r = let t : admits (Some x) u ≡ true = ap (λ o. admits o u) h in cc
set_refuses (x ∷ m) (suc c) zero u v h r = r
set_refuses (x ∷ m) zero (suc d) u v h r = r
set_refuses (x ∷ m) (suc c) (suc d) u v h r = set_refuses m c d u v h r

module _ (m k : Mapping) (c : ℕ) (u : Term) (r : admits (slice_get m c) u ≡ false) where
  from_same : (b : Bool) → cond b (Some m) None ≡ Some k → admits (slice_get k c) u ≡ false
  from_same true e = subst (λ (l : Mapping). admits (slice_get l c) u ≡ false) (some_is e) r
    where
      some_is : {X : Type 0} {x y : X} → Some x ≡ Some y → x ≡ y
      some_is e = cc
  from_same false e = cc

  from_column : (d : ℕ) (v : Term) (o : Option (Option Term)) → slice_get m d ≡ o → assigned_at m d v o ≡ Some k → admits (slice_get k c) u ≡ false
  from_column d v (Some (Some t)) h e = from_same (same_term t v) e
  from_column d v (Some None) h e =
      let is : slice_set m d (Some v) ≡ k = cc in
      subst (λ (l : Mapping). admits (slice_get l c) u ≡ false) is (set_refuses m c d u v h r)
  from_column d v None h e = cc

  from_place : (y : Place) (v : Term) → assigned m y v ≡ Some k → admits (slice_get k c) u ≡ false
  from_place (Fixed t) v e = from_same (same_term t v) e
  from_place (Column d) v e = from_column d v (slice_get m d) refl e
  from_place Nowhere v e = cc

refuses : (m k : Mapping) (x y : Place) (u v : Term) → assigned m y v ≡ Some k → is_some (assigned m x u) ≡ false → is_some (assigned k x u) ≡ false
refuses m k (Fixed t) y u v e r = some_where (same_term t u) k ∙ sym (some_where (same_term t u) m) ∙ r
refuses m k (Column c) y u v e r =
    assigned_admits k c u (slice_get k c) ∙ from_place m k c u (sym (assigned_admits m c u (slice_get m c)) ∙ r) y v e
refuses m k Nowhere y u v e r = refl

is_none : {X : Type 0} (o : Option X) → is_some o ≡ false → o ≡ None
is_none None h = refl
is_none (Some x) h = cc

-- the mapping may have each term of the triple at its place, one by one
abbrev fits : Places → Mapping → QuadParts → Bool
fits p m q = is_some (assigned m p.predicate q.predicate) && (is_some (assigned m p.subject q.subject) && is_some (assigned m p.object q.object))

-- a triple of which one term is refused at its place is no match
no_fit : (p : Places) (m : Mapping) (q : QuadParts) → fits p m q ≡ false → matched p m q ≡ None
no_fit p m q h = by_predicate (assigned m p.predicate q.predicate) refl h
  where
    by_object : (k : Mapping) → is_some (assigned k p.object q.object) ≡ false → (s : Option Mapping) → assigned k p.subject q.subject ≡ s →
        option_and_then (λ l. assigned l p.object q.object) s ≡ None
    by_object k r None e = refl
    by_object k r (Some l) e = is_none (assigned l p.object q.object) (refuses k l p.object p.subject q.object q.subject e r)

    by_subject : (k : Mapping) → assigned m p.predicate q.predicate ≡ Some k → (b : Bool) → is_some (assigned m p.subject q.subject) ≡ b →
        (b && is_some (assigned m p.object q.object)) ≡ false → option_and_then (λ l. assigned l p.object q.object) (assigned k p.subject q.subject) ≡ None
    by_subject k e true s r = by_object k (refuses m k p.object p.predicate q.object q.predicate e r) (assigned k p.subject q.subject) refl
    by_subject k e false s r =
        ap (option_and_then (λ l. assigned l p.object q.object))
        (is_none (assigned k p.subject q.subject) (refuses m k p.subject p.predicate q.subject q.predicate e s))

    by_predicate : (o : Option Mapping) → assigned m p.predicate q.predicate ≡ o →
        (is_some o && (is_some (assigned m p.subject q.subject) && is_some (assigned m p.object q.object))) ≡ false →
        option_and_then (λ k. option_and_then (λ l. assigned l p.object q.object) (assigned k p.subject q.subject)) o ≡ None
    by_predicate None e r = refl
    by_predicate (Some k) e r = by_subject k e (is_some (assigned m p.subject q.subject)) refl r

-- ---- a triple that fits has the terms of the bound places

at_column : (m : Mapping) (c : ℕ) (u : Term) → admits (slice_get m c) u ≡ true → fits_place (value_at m c) u ≡ true
at_column [] c u h = refl
at_column (Some t ∷ m) zero u h = h
at_column (None ∷ m) zero u h = refl
at_column (x ∷ m) (suc c) u h = at_column m c u h

held_fits : (m : Mapping) (x : Place) (u : Term) → is_some (assigned m x u) ≡ true → fits_place (held m x) u ≡ true
held_fits m (Fixed t) u h = sym (some_where (same_term t u) m) ∙ h
held_fits m (Column c) u h = at_column m c u (sym (assigned_admits m c u (slice_get m c)) ∙ h)
held_fits m Nowhere u h = cc

abbrev pub terms_under : Places → Mapping → QuadParts → Bool
terms_under p m = has_terms (held m p.subject) (held m p.predicate) (held m p.object)

fit_terms : (p : Places) (m : Mapping) (q : QuadParts) → fits p m q ≡ true → terms_under p m q ≡ true
fit_terms p m q h =
    let rest : (is_some (assigned m p.subject q.subject) && is_some (assigned m p.object q.object)) ≡ true =
    and_right (is_some (assigned m p.predicate q.predicate)) _ h in
    ap (λ b. b && (fits_place (held m p.predicate) q.predicate && fits_place (held m p.object) q.object))
    (held_fits m p.subject q.subject (and_left (is_some (assigned m p.subject q.subject)) _ rest))
    ∙ ap (λ b. b && fits_place (held m p.object) q.object)
    (held_fits m p.predicate q.predicate (and_left (is_some (assigned m p.predicate q.predicate)) _ h))
    ∙ held_fits m p.object q.object (and_right (is_some (assigned m p.subject q.subject)) _ rest)

-- a triple without them is no match
pub no_terms : (p : Places) (m : Mapping) (q : QuadParts) → terms_under p m q ≡ false → matched p m q ≡ None
no_terms p m q h = by_fit (fits p m q) refl
  where
    by_fit : (b : Bool) → fits p m q ≡ b → matched p m q ≡ None
    by_fit true e = absurd (true≢false (sym (fit_terms p m q e) ∙ h))
    by_fit false e = no_fit p m q e

-- ---- a term that a mapping has at a place stays there

set_keeps : (m : Mapping) (c d : ℕ) (t v : Term) → slice_get m d ≡ Some None → value_at m c ≡ Some t → value_at (slice_set m d (Some v)) c ≡ Some t
set_keeps [] c d t v h e = cc
set_keeps (x ∷ m) zero zero t v h e = cc
set_keeps (x ∷ m) (suc c) zero t v h e = e
set_keeps (x ∷ m) zero (suc d) t v h e = e
set_keeps (x ∷ m) (suc c) (suc d) t v h e = set_keeps m c d t v h e

some_same : {X : Type 0} {x y : X} → Some x ≡ Some y → x ≡ y
some_same e = cc

module _ (m k : Mapping) (c : ℕ) (t : Term) (r : value_at m c ≡ Some t) where
  kept_same : (b : Bool) → cond b (Some m) None ≡ Some k → value_at k c ≡ Some t
  kept_same true e = subst (λ (l : Mapping). value_at l c ≡ Some t) (some_same e) r
  kept_same false e = cc

  kept_column : (d : ℕ) (v : Term) (o : Option (Option Term)) → slice_get m d ≡ o → assigned_at m d v o ≡ Some k → value_at k c ≡ Some t
  kept_column d v (Some (Some u)) h e = kept_same (same_term u v) e
  kept_column d v (Some None) h e = subst (λ (l : Mapping). value_at l c ≡ Some t) (some_same e) (set_keeps m c d t v h r)
  kept_column d v None h e = cc

  kept_place : (y : Place) (v : Term) → assigned m y v ≡ Some k → value_at k c ≡ Some t
  kept_place (Fixed u) v e = kept_same (same_term u v) e
  kept_place (Column d) v e = kept_column d v (slice_get m d) refl e
  kept_place Nowhere v e = cc

keeps : (m k : Mapping) (x y : Place) (t v : Term) → assigned m y v ≡ Some k → held m x ≡ Some t → held k x ≡ Some t
keeps m k (Fixed s) y t v e h = h
keeps m k (Column c) y t v e h = kept_place m k c t h y v e
keeps m k Nowhere y t v e h = h

column_has : (k : Mapping) (c : ℕ) (t : Term) → value_at k c ≡ Some t → slice_get k c ≡ Some (Some t)
column_has [] c t e = cc
column_has (x ∷ k) zero t e = ap Some e
column_has (x ∷ k) (suc c) t e = column_has k c t e

has_it : (k : Mapping) (x : Place) (t u : Term) → held k x ≡ Some t → same_term t u ≡ true → assigned k x u ≡ Some k
has_it k (Fixed s) t u h e = ap (λ b. cond b (Some k) None) (ap (λ (y : Term). same_term y u) (some_same h) ∙ e)
has_it k (Column c) t u h e = ap (assigned_at k c u) (column_has k c t h) ∙ ap (λ b. cond b (Some k) None) e
has_it k Nowhere t u h e = cc

-- what the place had at the start, it has, and it is the term
abbrev pub IsReady : Mapping → Mapping → Place → Term → Type 0
IsReady m k x u = IfSome (held m x) (λ t. (held k x ≡ Some t) × (same_term t u ≡ true))

pub ready_taken : (m k : Mapping) (x : Place) (u : Term) (b : Bool) → b ≡ is_some (held m x) → b ≡ true → IsReady m k x u → assigned k x u ≡ Some k
ready_taken m k x u b e y r = by_term (held m x) (sym e ∙ y) r
  where
    by_term : (o : Option Term) → is_some o ≡ true → IfSome o (λ t. (held k x ≡ Some t) × (same_term t u ≡ true)) → assigned k x u ≡ Some k
    by_term None h g = cc
    by_term (Some t) h g = has_it k x t u g.0 g.1

pub ready_first : (m k : Mapping) (x : Place) (u : Term) → k ≡ m → fits_place (held m x) u ≡ true → IsReady m k x u
ready_first m k x u e f = by_term (held m x) refl f
  where
    by_term : (o : Option Term) → held m x ≡ o → fits_place o u ≡ true → IfSome o (λ t. (held k x ≡ Some t) × (same_term t u ≡ true))
    by_term None h g = tt
    by_term (Some t) h g = (ap (λ (l : Mapping). held l x) e ∙ h, g)

pub ready_next : (m k l : Mapping) (x y : Place) (u v : Term) → IsReady m k x u → assigned k y v ≡ Some l → IsReady m l x u
ready_next m k l x y u v r e = by_term (held m x) r
  where
    by_term : (o : Option Term) → IfSome o (λ t. (held k x ≡ Some t) × (same_term t u ≡ true)) → IfSome o (λ t. (held l x ≡ Some t) × (same_term t u ≡ true))
    by_term None g = tt
    by_term (Some t) g = (keeps k l x y t v e g.0, g.1)

-- ---- the quads of a look-up have the terms

pub either_last : (a b : Bool) → b ≡ true → (a || b) ≡ true
either_last true b k = refl
either_last false b k = k

-- what holds of each that a list has, holds of all of it
pub each_had : (h : QuadParts → Bool) (xs : List QuadParts) → ((q : QuadParts) → list_any (eq_by_cmp quad_cmp q) xs ≡ true → h q ≡ true) → list_all h xs ≡ true
each_had h [] f = refl
each_had h (x ∷ xs) f =
    λ i. f x (ap (λ b. b || list_any (eq_by_cmp quad_cmp x) xs) (ap is_eq (tied_itself quad_cmp_total x))) i
    && each_had h xs (λ q k. f q (either_last (eq_by_cmp quad_cmp q x) _ k)) i

module _ (s : State) (g : GraphName) (p : Places) (m : Mapping) (q : QuadParts) (k : set.contains (quads_under s g p m) q ≡ true) where
  abbrev test : QuadParts → Bool
  test = matches g (held m p.subject) (held m p.predicate) (held m p.object)

  parts : (set.contains s.quads q && test q) ≡ true
  parts = sym (contains-retain s.quads test q (λ x i. ap test (sym (quad_cmp-IsAntisymmetric q x i)))) ∙ k

  pub under_there : set.contains s.quads q ≡ true
  under_there = and_left (set.contains s.quads q) _ parts

  pub under_graph : eq_by_cmp graph_cmp g q.graph ≡ true
  under_graph = and_left (eq_by_cmp graph_cmp g q.graph) _ (and_right (set.contains s.quads q) _ parts)

  pub under_held : has_held p m q ≡ true
  under_held = and_right (eq_by_cmp graph_cmp g q.graph) _ (and_right (set.contains s.quads q) _ parts)

pub listed_held : (s : State) (g : GraphName) (p : Places) (m : Mapping) (found given : List QuadParts) → ListsOnce (quads_under s g p m) found → given ≡ found → list_all (has_held p m) given ≡ true
listed_held s g p m found given h e =
    ap (list_all (has_held p m)) e
    ∙ each_had (has_held p m) found (λ q k. under_held s g p m q (ap (λ z. set.contains z q) (sym h.all) ∙ contains-from_list quad_cmp_total found q ∙ k))

pub held_at : (p : Places) (m : Mapping) (qs : List QuadParts) (i : ℕ) (q : QuadParts) → i < length qs → q ≡ get_or qs i q → list_all (has_held p m) qs ≡ true → has_held p m q ≡ true
held_at p m qs i q lt here a = ap (has_held p m) here ∙ by_test (has_held p m (get_or qs i q)) refl
  where
    by_test : (b : Bool) → has_held p m (get_or qs i q) ≡ b → b ≡ true
    by_test true e = refl
    by_test false e = absurd (true≢false (sym a ∙ list_all_at (has_held p m) qs i q lt e))

pub held_last : (p : Places) (m : Mapping) (qs others : List QuadParts) (last : QuadParts) → IsLastAndRest qs last others → list_all (has_held p m) qs ≡ true → has_held p m last ≡ true
held_last p m qs others last h a =
    let split : (list_all (has_held p m) others && list_all (has_held p m) (last ∷ [])) ≡ true =
    sym (list_all-append (has_held p m) others (last ∷ [])) ∙ sym (ap (list_all (has_held p m)) h.0) ∙ a in
    and_left (has_held p m last) true (and_right (list_all (has_held p m) others) _ split)
