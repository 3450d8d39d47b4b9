-- The triple patterns of a basic graph pattern may be looked up in any order.
use Rattle.std.proofs.Common.{◌≡◌, ℕ, zero, suc, ◌+◌, Bool, true, false, cond, List, [], ◌∷◌, ◌++◌, Option, Some, None, refl, sym, ap, ◌∙◌, ◌<◌, map, take, drop, length, get_or, arith, Bor}
use Rattle.std.specs.Prelude.{slice_get, option_and_then}
use Rattle.std.specs.Option.{option_map}
use Rattle.std.specs.List.{sum_by, remove}
use Rattle.std.proofs.lemmas.List.{drop_more, map-append, take-append-drop}
use Rattle.std.proofs.lemmas.List.Sums.{sum_by-cons}
use Rattle.rdf_terms.specs.Quad.{QuadParts}
use Rattle.rdf_terms.specs.declared.term.Term.{Term}
use Rattle.rdf_terms.specs.declared.quad.GraphName.{GraphName}
use Rattle.rdf_dataset.specs.State.{State}
use Rattle.sparql_values.specs.Mapping.{Mapping, same_term}
use Rattle.sparql_algebra.specs.Bags.{SameBag}
use Rattle.sparql_algebra.specs.Listing.{Listing, Lists}
use Rattle.sparql_algebra.proofs.CallerLemmas.{same_term_is, sum_by-cong, sum_by-flat_map, sum_zero}
use Rattle.sparql_solve.specs.declared.place.Place.{Place}
use Rattle.sparql_solve.specs.declared.place.Place.TheVariants.{Fixed, Column, Nowhere}
use Rattle.sparql_solve.specs.declared.place.Places.{Places}
use Rattle.sparql_solve.specs.Matching.{assigned_at, assigned, matched, matches_of, stepped, matching}
use Rattle.sparql_solve.specs.Members.{AreSolutions}
use Rattle.sparql_solve.proofs.MatchingLemmas.{num, sum_by-filter_map}
use Rattle.sparql_solve.proofs.LookUpLemmas.{SameBag-matching}

-- ---- steps that may fail, one after another

abbrev Step : Type 0
Step = Mapping → Option Mapping

-- in either order
abbrev Commute : Step → Step → Type 0
Commute f g = (m : Mapping) → option_and_then g (f m) ≡ option_and_then f (g m)

abbrev then_step : Step → Step → Step
then_step f g m = option_and_then g (f m)

bind_assoc : (f g : Step) (o : Option Mapping) → option_and_then g (option_and_then f o) ≡ option_and_then (then_step f g) o
bind_assoc f g None = refl
bind_assoc f g (Some m) = refl

bind_cong : (f g : Step) (o : Option Mapping) → ((m : Mapping) → f m ≡ g m) → option_and_then f o ≡ option_and_then g o
bind_cong f g None e = refl
bind_cong f g (Some m) e = e m

bind_none : (o : Option Mapping) → option_and_then {T = Mapping} {U = Mapping} (λ m. None) o ≡ None
bind_none None = refl
bind_none (Some m) = refl

bind_some : (o : Option Mapping) → option_and_then {T = Mapping} {U = Mapping} (λ m. Some m) o ≡ o
bind_some None = refl
bind_some (Some m) = refl

turn : (f g : Step) → Commute f g → Commute g f
turn f g h m = sym (h m)

-- what commutes with two steps commutes with both one after another
both : (f g k : Step) → Commute f g → Commute f k → Commute f (then_step g k)
both f g k h j m =
    sym (bind_assoc g k (f m)) ∙ ap (option_and_then k) (h m) ∙ bind_assoc f k (g m)
    ∙ bind_cong (then_step f k) (then_step k f) (g m) j ∙ sym (bind_assoc k f (g m))

-- ---- one place

abbrev at : ℕ → Term → Step
at c u m = assigned_at m c u (slice_get m c)

test_swap : (a b : Bool) (M : Mapping) → cond a (cond b (Some M) None) None ≡ cond b (cond a (Some M) None) None
test_swap true true M = refl
test_swap true false M = refl
test_swap false true M = refl
test_swap false false M = refl

-- the columns behind the first
shift : (x : Option Term) (c : ℕ) (u : Term) (m : Mapping) → at (suc c) u (x ∷ m) ≡ option_map (λ (k : Mapping). x ∷ k) (at c u m)
shift x c u m = by_value (slice_get m c)
  where
    by_test : (b : Bool) → cond b (Some (x ∷ m)) None ≡ option_map (λ (k : Mapping). x ∷ k) (cond b (Some m) None)
    by_test true = refl
    by_test false = refl

    by_value : (o : Option (Option Term)) → assigned_at (x ∷ m) (suc c) u o ≡ option_map (λ (k : Mapping). x ∷ k) (assigned_at m c u o)
    by_value (Some (Some t)) = by_test (same_term t u)
    by_value (Some None) = refl
    by_value None = refl

abbrev nothing : Option Mapping
nothing = None

bind_test : (b : Bool) (f : Step) (M : Mapping) → option_and_then f (cond b (Some M) None) ≡ cond b (f M) None
bind_test true f M = refl
bind_test false f M = refl

none_tested : (b : Bool) → cond b nothing nothing ≡ nothing
none_tested true = refl
none_tested false = refl

same_turn : (u v : Term) (m : Mapping) (a b : Bool) → same_term u v ≡ a → same_term v u ≡ b → cond a (Some (Some u ∷ m)) None ≡ cond b (Some (Some v ∷ m)) None
same_turn u v m true true e h = ap (λ (t : Term). Some (Some t ∷ m)) (same_term_is u v e)
same_turn u v m true false e h =
    let p : u ≡ v = same_term_is u v e in
    let k : same_term v u ≡ true = ap (λ (t : Term). same_term t u) (sym p) ∙ ap (same_term u) p ∙ e in
    cc
same_turn u v m false true e h =
    let p : v ≡ u = same_term_is v u h in
    let k : same_term u v ≡ true = ap (λ (t : Term). same_term t v) (sym p) ∙ ap (same_term v) p ∙ h in
    cc
same_turn u v m false false e h = refl

first_turn : (d : ℕ) (u v : Term) (x : Option Term) (m : Mapping) →
    option_and_then (at (suc d) v) (at zero u (x ∷ m)) ≡ option_and_then (at zero u) (at (suc d) v (x ∷ m))
first_turn d u v (Some t) m =
    bind_test (same_term t u) (at (suc d) v) (Some t ∷ m) ∙ ap (λ (o : Option Mapping). cond (same_term t u) o None) (shift (Some t) d v m)
    ∙ by_value (at d v m) ∙ ap (option_and_then (at zero u)) (sym (shift (Some t) d v m))
  where
    by_value : (o : Option Mapping) →
        cond (same_term t u) (option_map (λ (k : Mapping). Some t ∷ k) o) None ≡ option_and_then (at zero u) (option_map (λ (k : Mapping). Some t ∷ k) o)
    by_value None = none_tested (same_term t u)
    by_value (Some k) = refl
first_turn d u v None m = shift (Some u) d v m ∙ by_value (at d v m) ∙ ap (option_and_then (at zero u)) (sym (shift None d v m))
  where
    by_value : (o : Option Mapping) → option_map (λ (k : Mapping). Some u ∷ k) o ≡ option_and_then (at zero u) (option_map (λ (k : Mapping). None ∷ k) o)
    by_value None = refl
    by_value (Some k) = refl

columns_turn : (c d : ℕ) (u v : Term) (m : Mapping) → option_and_then (at d v) (at c u m) ≡ option_and_then (at c u) (at d v m)
columns_turn c d u v [] = refl
columns_turn zero zero u v (Some t ∷ m) =
    bind_test (same_term t u) (at zero v) (Some t ∷ m) ∙ test_swap (same_term t u) (same_term t v) (Some t ∷ m)
    ∙ sym (bind_test (same_term t v) (at zero u) (Some t ∷ m))
columns_turn zero zero u v (None ∷ m) = same_turn u v m (same_term u v) (same_term v u) refl refl
columns_turn zero (suc d) u v (x ∷ m) = first_turn d u v x m
columns_turn (suc c) zero u v (x ∷ m) = sym (first_turn c v u x m)
columns_turn (suc c) (suc d) u v (x ∷ m) =
    ap (option_and_then (at (suc d) v)) (shift x c u m) ∙ inner d v (at c u m)
    ∙ ap (option_map (λ (k : Mapping). x ∷ k)) (columns_turn c d u v m)
    ∙ sym (inner c u (at d v m)) ∙ ap (option_and_then (at (suc c) u)) (sym (shift x d v m))
  where
    inner : (e : ℕ) (w : Term) (o : Option Mapping) →
        option_and_then (at (suc e) w) (option_map (λ (k : Mapping). x ∷ k) o) ≡ option_map (λ (k : Mapping). x ∷ k) (option_and_then (at e w) o)
    inner e w None = refl
    inner e w (Some k) = shift x e w k

abbrev gate : Bool → Step
gate b m = cond b (Some m) None

gate_turn : (b : Bool) (g : Step) → Commute (gate b) g
gate_turn true g m = sym (bind_some (g m))
gate_turn false g m = sym (bind_none (g m))

abbrev put : Place → Term → Step
put x u m = assigned m x u

places_turn : (x y : Place) (u v : Term) → Commute (put x u) (put y v)
places_turn (Fixed t) y u v = gate_turn (same_term t u) (put y v)
places_turn Nowhere y u v = gate_turn false (put y v)
places_turn (Column c) (Fixed t) u v = turn (gate (same_term t v)) (put (Column c) u) (gate_turn (same_term t v) (put (Column c) u))
places_turn (Column c) Nowhere u v = turn (gate false) (put (Column c) u) (gate_turn false (put (Column c) u))
places_turn (Column c) (Column d) u v = columns_turn c d u v

-- ---- one triple

abbrev match_step : Places → QuadParts → Step
match_step p t = then_step (put p.predicate t.predicate) (then_step (put p.subject t.subject) (put p.object t.object))

one_of : (x : Place) (u : Term) (q : Places) (t : QuadParts) → Commute (put x u) (match_step q t)
one_of x u q t =
    both (put x u) (put q.predicate t.predicate) (then_step (put q.subject t.subject) (put q.object t.object)) (places_turn x q.predicate u t.predicate)
    (both (put x u) (put q.subject t.subject) (put q.object t.object) (places_turn x q.subject u t.subject) (places_turn x q.object u t.object))

triples_turn : (p q : Places) (t u : QuadParts) → Commute (match_step p t) (match_step q u)
triples_turn p q t u =
    let other : Step = match_step q u in
    let here : (x : Place) (v : Term) → Commute other (put x v) = λ x v. turn (put x v) other (one_of x v q u) in
    turn other (match_step p t)
    (both other (put p.predicate t.predicate) (then_step (put p.subject t.subject) (put p.object t.object)) (here p.predicate t.predicate)
    (both other (put p.subject t.subject) (put p.object t.object) (here p.subject t.subject) (here p.object t.object)))

-- ---- all triples

module _ {X : Type 0} where
  sum_plus : (f g : X → ℕ) (xs : List X) → sum_by (λ x. f x + g x) xs ≡ sum_by f xs + sum_by g xs
  sum_plus f g [] = omega arith
  sum_plus f g (x ∷ xs) = omega (arith, sum_by-cons (λ y. f y + g y) x xs, sum_by-cons f x xs, sum_by-cons g x xs, sum_plus f g xs)

  sum_swap : {Y : Type 0} (h : X → Y → ℕ) (xs : List X) (ys : List Y) → sum_by (λ x. sum_by (h x) ys) xs ≡ sum_by (λ y. sum_by (λ x. h x y) xs) ys
  sum_swap h xs [] = sum_zero (λ x. sum_by (h x) []) xs (λ x. refl)
  sum_swap h xs (y ∷ ys) =
      sum_by-cong (λ x. sum_by (h x) (y ∷ ys)) (λ x. h x y + sum_by (h x) ys) xs (λ x. sum_by-cons (h x) y ys)
      ∙ sum_plus (λ x. h x y) (λ x. sum_by (h x) ys) xs
      ∙ ap (λ n. sum_by (λ x. h x y) xs + n) (sum_swap h xs ys)
      ∙ sym (sum_by-cons (λ z. sum_by (λ x. h x z) xs) y ys)

module _ (quads : List QuadParts) (f : Mapping → ℕ) where
  abbrev pairs : Places → Places → Mapping → ℕ
  pairs p q m = sum_by (λ t. sum_by (λ u. num (option_and_then (match_step q u) (match_step p t m)) f) quads) quads

  of_each : (q : Places) (o : Option Mapping) →
      num o (λ k. sum_by f (matches_of quads q k)) ≡ sum_by (λ u. num (option_and_then (match_step q u) o) f) quads
  of_each q None = sym (sum_zero (λ u. 0) quads (λ u. refl))
  of_each q (Some k) = sum_by-filter_map f (matched q k) quads

  two_steps : (p q : Places) (m : Mapping) → sum_by (λ k. sum_by f (matches_of quads q k)) (matches_of quads p m) ≡ pairs p q m
  two_steps p q m =
      sum_by-filter_map (λ k. sum_by f (matches_of quads q k)) (matched p m) quads
      ∙ sum_by-cong (λ t. num (matched p m t) (λ k. sum_by f (matches_of quads q k))) (λ t. sum_by (λ u. num (option_and_then (match_step q u) (match_step p t m)) f) quads) quads
      (λ t. of_each q (match_step p t m))

  pairs_turn : (p q : Places) (m : Mapping) → pairs p q m ≡ pairs q p m
  pairs_turn p q m =
      sum_by-cong (λ t. sum_by (λ u. num (option_and_then (match_step q u) (match_step p t m)) f) quads)
      (λ t. sum_by (λ u. num (option_and_then (match_step p t) (match_step q u m)) f) quads) quads
      (λ t. sum_by-cong (λ u. num (option_and_then (match_step q u) (match_step p t m)) f) (λ u. num (option_and_then (match_step p t) (match_step q u m)) f) quads
      (λ u. ap (λ o. num o f) (triples_turn p q t u m)))
      ∙ sum_swap (λ t u. num (option_and_then (match_step p t) (match_step q u m)) f) quads quads

  steps_sum : (ms : List Mapping) (p q : Places) → sum_by f (stepped quads (stepped quads ms p) q) ≡ sum_by (pairs p q) ms
  steps_sum ms p q =
      sum_by-flat_map f (matches_of quads q) (stepped quads ms p)
      ∙ sum_by-flat_map (λ k. sum_by f (matches_of quads q k)) (matches_of quads p) ms
      ∙ sum_by-cong (λ m. sum_by (λ k. sum_by f (matches_of quads q k)) (matches_of quads p m)) (pairs p q) ms (two_steps p q)

  steps_turn : (ms : List Mapping) (p q : Places) → sum_by f (stepped quads (stepped quads ms p) q) ≡ sum_by f (stepped quads (stepped quads ms q) p)
  steps_turn ms p q = steps_sum ms p q ∙ sum_by-cong (pairs p q) (pairs q p) ms (pairs_turn p q) ∙ sym (steps_sum ms q p)

-- a triple pattern may be looked up before those in front of it
pub taken_first : (quads : List QuadParts) (front back : List Places) (p : Places) (ms : List Mapping) →
    SameBag (matching quads (front ++ p ∷ back) ms) (matching quads (p ∷ front ++ back) ms)
taken_first quads [] back p ms f = refl
taken_first quads (q ∷ front) back p ms f =
    taken_first quads front back p (stepped quads ms q) f
    ∙ SameBag-matching quads (front ++ back) (stepped quads (stepped quads ms q) p) (stepped quads (stepped quads ms p) q) (λ f2. steps_turn quads f2 ms q p) f

-- ---- for the loop

abbrev pub asked : List (Bor Places) → List Places
asked xs = map (λ r. r.now) xs

pub all_asked : (s : State) (g : GraphName) (ps : List Places) (rest : List (Bor Places)) (start : List Mapping) → asked rest ≡ ps →
    (d : Listing) → Lists s d → SameBag (matching (d.quads g) (asked rest) start) (matching (d.quads g) ps start)
all_asked s g ps rest start e d l f = ap (λ (qs : List Places). sum_by f (matching (d.quads g) qs start)) e

nothing_asked : (rest : List (Bor Places)) → length rest ≡ 0 → [] ≡ asked rest
nothing_asked [] e = refl
nothing_asked (x ∷ rest) e = absurd (omega (arith, e))

pub none_asked : (s : State) (g : GraphName) (ps : List Places) (rest : List (Bor Places)) (rows start : List Mapping) → length rest ≡ 0 →
    ((d : Listing) → Lists s d → SameBag (matching (d.quads g) (asked rest) rows) (matching (d.quads g) ps start)) →
    AreSolutions s rows (λ d. matching (d.quads g) ps start)
none_asked s g ps rest rows start e h d l f =
    ap (λ (qs : List Places). sum_by f (matching (d.quads g) qs rows)) (nothing_asked rest e) ∙ h d l f

stands_at : (xs : List (Bor Places)) (i : ℕ) (x : Bor Places) → i < length xs → x ≡ get_or xs i x → xs ≡ take i xs ++ x ∷ drop (suc i) xs
stands_at xs i x lt here =
    let next : i + 1 ≡ suc i = omega arith in
    sym (take-append-drop i xs)
    ∙ ap (λ (l : List (Bor Places)). take i xs ++ l)
    (drop_more xs i x lt ∙ ap (λ (y : Bor Places). y ∷ drop (i + 1) xs) (sym here) ∙ ap (λ n. x ∷ drop n xs) next)

-- one of the triple patterns before the others
pub one_before : (quads : List QuadParts) (rest after : List (Bor Places)) (i : ℕ) (x : Bor Places) (rows found : List Mapping) → i < length rest → x ≡ get_or rest i x →
    after ≡ remove rest i → SameBag found (stepped quads rows x.now) → SameBag (matching quads (asked after) found) (matching quads (asked rest) rows)
one_before quads rest after i x rows found lt here e r f =
    let front : List Places = asked (take i rest) in
    let back : List Places = asked (drop (suc i) rest) in
    let whole : asked rest ≡ front ++ x.now ∷ back =
    ap asked (stands_at rest i x lt here) ∙ map-append (λ (y : Bor Places). y.now) (take i rest) (x ∷ drop (suc i) rest) in
    let others : asked after ≡ front ++ back = ap asked e ∙ map-append (λ (y : Bor Places). y.now) (take i rest) (drop (suc i) rest) in
    ap (λ (qs : List Places). sum_by f (matching quads qs found)) others
    ∙ SameBag-matching quads (front ++ back) found (stepped quads rows x.now) r f
    ∙ sym (taken_first quads front back x.now rows f)
    ∙ ap (λ (qs : List Places). sum_by f (matching quads qs rows)) (sym whole)

pub one_looked_up : (s : State) (g : GraphName) (ps : List Places) (rest after : List (Bor Places)) (i : ℕ) (x : Bor Places) (rows found start : List Mapping) →
    i < length rest → x ≡ get_or rest i x → after ≡ remove rest i →
    ((d : Listing) → Lists s d → SameBag (matching (d.quads g) (asked rest) rows) (matching (d.quads g) ps start)) →
    AreSolutions s found (λ d. stepped (d.quads g) rows x.now) →
    (d : Listing) → Lists s d → SameBag (matching (d.quads g) (asked after) found) (matching (d.quads g) ps start)
one_looked_up s g ps rest after i x rows found start lt here e h r d l f = one_before (d.quads g) rest after i x rows found lt here e (r d l) f ∙ h d l f
