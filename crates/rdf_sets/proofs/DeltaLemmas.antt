-- What an insertion, a removal and a second delta make of a delta.
use Rattle.std.proofs.Common.{◌≡◌, Bool, true, false, not, ◌&&◌, ◌||◌, List, [], refl, sym, ap, ◌∙◌}
use mathlib.Core.Bool.{true≢false}
use Rattle.std.specs.declared.cmp.Ordering.{Ordering}
use Rattle.std.specs.Ordering.{eq_by_cmp}
use Rattle.std.specs.Cmp.{IsTotalOrder}
use Rattle.std.specs.FinSet as set
use Rattle.std.specs.FinSet.{contains, from_list, IsAntisymmetric, same_set, contains-insert, contains-remove, contains-union, contains-difference, contains-empty, insert, remove, union, difference}
use Rattle.rdf_sets.specs.Delta.{IsDelta}
use Rattle.rdf_sets.proofs.SortedLemmas.{at_tie}

self_out : (a : Bool) → false ≡ (a && not a)
self_out true = refl
self_out false = refl

with_in : (e a b : Bool) → (e ≡ true → b ≡ true) → (a && not b) ≡ ((e || a) && not b)
with_in false a b h = refl
with_in true true b h = rw (h refl) refl
with_in true false b h = rw (h refl) refl

out_of : (e a b : Bool) → (not e && (b && not a)) ≡ (b && not (e || a))
out_of true a true = refl
out_of true a false = refl
out_of false a b = refl

with_out : (e a b : Bool) → (e ≡ true → b ≡ false) → (e || (a && not b)) ≡ ((e || a) && not b)
with_out false a b h = refl
with_out true a b h = rw (h refl) refl

still_out : (e a b : Bool) → (e ≡ true → b ≡ false) → (b && not a) ≡ (b && not (e || a))
still_out false a b h = refl
still_out true a b h = rw (h refl) refl

less_in : (e a b : Bool) → (e ≡ true → b ≡ true) → (a && not b) ≡ ((not e && a) && not b)
less_in false a b h = refl
less_in true true b h = rw (h refl) refl
less_in true false b h = refl

more_out : (e a b : Bool) → (e ≡ true → b ≡ true) → (e || (b && not a)) ≡ (b && not (not e && a))
more_out false a b h = refl
more_out true a b h = rw (h refl) refl

less_out : (e a b : Bool) → (not e && (a && not b)) ≡ ((not e && a) && not b)
less_out true a b = refl
less_out false a b = refl

never_in : (e a b : Bool) → (e ≡ true → b ≡ false) → (b && not a) ≡ (b && not (not e && a))
never_in false a b h = refl
never_in true a b h = rw (h refl) refl

two_steps : (a b c : Bool) → (((b && not a) && not (b && not c)) || ((c && not b) && not (a && not b))) ≡ (c && not a)
two_steps true true true = refl
two_steps true true false = refl
two_steps true false true = refl
two_steps true false false = refl
two_steps false true true = refl
two_steps false true false = refl
two_steps false false true = refl
two_steps false false false = refl

pub ends_at : (a b : Bool) → ((a || (b && not a)) && not (a && not b)) ≡ b
ends_at true true = refl
ends_at true false = refl
ends_at false true = refl
ends_at false false = refl

taken_out : (a b : Bool) → a ≡ ((a || (b && not a)) && not (b && not a))
taken_out true true = refl
taken_out true false = refl
taken_out false true = refl
taken_out false false = refl

not_not : (a : Bool) → not (true && not a) ≡ a
not_not true = refl
not_not false = refl

and-true : (a : Bool) → (a && true) ≡ a
and-true true = refl
and-true false = refl

pub not_there : (a b : Bool) → (b && not a) ≡ true → a ≡ false
not_there true true e = absurd (true≢false (sym e))
not_there true false e = absurd (true≢false (sym e))
not_there false b e = refl

module _ {K : Type 0} {R : K → K → Ordering} (o : IsTotalOrder R) (apart : IsAntisymmetric R) where
  abbrev same : (s t : set.FinSet R) → ((q : K) → contains s q ≡ contains t q) → s ≡ t
  same s t h = same_set o apart s t h

  abbrev tie : K → K → Bool
  tie q x = eq_by_cmp R q x

  pub without_itself : (s : set.FinSet R) → set.empty ≡ difference s s
  without_itself s = same _ _ (λ q. contains-empty R q ∙ self_out (contains s q) ∙ sym (contains-difference o s s q))

  pub no_delta : (s : set.FinSet R) → IsDelta s s [] []
  no_delta s = record { gained = without_itself s; lost = without_itself s }

  module _ (s t : set.FinSet R) (a r : List K) (d : IsDelta s t a r) where
    pub gained_at : (q : K) → contains (from_list {R = R} a) q ≡ (contains t q && not (contains s q))
    gained_at q = ap (λ z. contains z q) d.gained ∙ contains-difference o t s q

    pub lost_at : (q : K) → contains (from_list {R = R} r) q ≡ (contains s q && not (contains t q))
    lost_at q = ap (λ z. contains z q) d.lost ∙ contains-difference o s t q

    pub has_known : (x : K) → true ≡ contains s x → not (contains (from_list {R = R} r) x) ≡ contains t x
    has_known x h = ap not (lost_at x ∙ ap (λ b. b && not (contains t x)) (sym h)) ∙ not_not (contains t x)

    pub has_new : (x : K) → false ≡ contains s x → contains (from_list {R = R} a) x ≡ contains t x
    has_new x h = gained_at x ∙ ap (λ b. contains t x && not b) (sym h) ∙ and-true (contains t x)

    pub lost_known : (x : K) → true ≡ contains s x → contains (from_list {R = R} r) x ≡ not (contains t x)
    lost_known x h = lost_at x ∙ ap (λ b. b && not (contains t x)) (sym h)

    pub insert_known : (x : K) (l : List K) → true ≡ contains s x → from_list {R = R} l ≡ remove (from_list r) x → IsDelta s (insert t x) a l
    insert_known x l h e = record {
      gained = same _ _ (λ q. gained_at q ∙ with_in (tie q x) (contains t q) (contains s q) (at_tie o apart s q x true (sym h)) ∙ sym (contains-difference o (insert t x) s q ∙ ap (λ b. b && not (contains s q)) (contains-insert o t x q)));
      lost = e ∙ same _ _ (λ q. contains-remove o (from_list r) x q ∙ ap (λ b. not (tie q x) && b) (lost_at q) ∙ out_of (tie q x) (contains t q) (contains s q) ∙ sym (contains-difference o s (insert t x) q ∙ ap (λ b. contains s q && not b) (contains-insert o t x q)));
    }

    pub insert_new : (x : K) (l : List K) → false ≡ contains s x → from_list {R = R} l ≡ insert (from_list a) x → IsDelta s (insert t x) l r
    insert_new x l h e = record {
      gained = e ∙ same _ _ (λ q. contains-insert o (from_list a) x q ∙ ap (λ b. tie q x || b) (gained_at q) ∙ with_out (tie q x) (contains t q) (contains s q) (at_tie o apart s q x false (sym h)) ∙ sym (contains-difference o (insert t x) s q ∙ ap (λ b. b && not (contains s q)) (contains-insert o t x q)));
      lost = same _ _ (λ q. lost_at q ∙ still_out (tie q x) (contains t q) (contains s q) (at_tie o apart s q x false (sym h)) ∙ sym (contains-difference o s (insert t x) q ∙ ap (λ b. contains s q && not b) (contains-insert o t x q)));
    }

    pub remove_known : (x : K) (l : List K) → true ≡ contains s x → from_list {R = R} l ≡ insert (from_list r) x → IsDelta s (remove t x) a l
    remove_known x l h e = record {
      gained = same _ _ (λ q. gained_at q ∙ less_in (tie q x) (contains t q) (contains s q) (at_tie o apart s q x true (sym h)) ∙ sym (contains-difference o (remove t x) s q ∙ ap (λ b. b && not (contains s q)) (contains-remove o t x q)));
      lost = e ∙ same _ _ (λ q. contains-insert o (from_list r) x q ∙ ap (λ b. tie q x || b) (lost_at q) ∙ more_out (tie q x) (contains t q) (contains s q) (at_tie o apart s q x true (sym h)) ∙ sym (contains-difference o s (remove t x) q ∙ ap (λ b. contains s q && not b) (contains-remove o t x q)));
    }

    pub remove_new : (x : K) (l : List K) → false ≡ contains s x → from_list {R = R} l ≡ remove (from_list a) x → IsDelta s (remove t x) l r
    remove_new x l h e = record {
      gained = e ∙ same _ _ (λ q. contains-remove o (from_list a) x q ∙ ap (λ b. not (tie q x) && b) (gained_at q) ∙ less_out (tie q x) (contains t q) (contains s q) ∙ sym (contains-difference o (remove t x) s q ∙ ap (λ b. b && not (contains s q)) (contains-remove o t x q)));
      lost = same _ _ (λ q. lost_at q ∙ never_in (tie q x) (contains t q) (contains s q) (at_tie o apart s q x false (sym h)) ∙ sym (contains-difference o s (remove t x) q ∙ ap (λ b. contains s q && not b) (contains-remove o t x q)));
    }

    -- what was added is new
    pub all_new : (x : K) → contains s x ≡ true → contains (from_list {R = R} a) x ≡ true → ⊥
    all_new x here new = true≢false (sym here ∙ not_there (contains s x) (contains t x) (sym (gained_at x) ∙ new))

    -- the other way
    pub turned : IsDelta t s r a
    turned = record { gained = d.lost; lost = d.gained }

    -- what was added goes in, and what was removed comes out
    pub applied : (mid new : set.FinSet R) → mid ≡ union s (from_list a) → new ≡ difference mid (from_list r) → new ≡ t
    applied mid new m n = n ∙ same _ _ (λ q.
        contains-difference o mid (from_list r) q
        ∙ (λ i. (ap (λ z. contains z q) m ∙ contains-union o s (from_list a) q ∙ ap (λ b. contains s q || b) (gained_at q)) i && not (lost_at q i))
        ∙ ends_at (contains s q) (contains t q))

    -- what went in comes out again
    pub taken_back : (mid new : set.FinSet R) → mid ≡ union s (from_list a) → new ≡ difference mid (from_list a) → new ≡ s
    taken_back mid new m n = n ∙ same _ _ (λ q.
        contains-difference o mid (from_list a) q
        ∙ (λ i. (ap (λ z. contains z q) m ∙ contains-union o s (from_list a) q ∙ ap (λ b. contains s q || b) (gained_at q)) i && not (gained_at q i))
        ∙ sym (taken_out (contains s q) (contains t q)))

  pub two_deltas : (s t u : set.FinSet R) (a r b l both : List K) → IsDelta s t a r → IsDelta t u b l
      → from_list {R = R} both ≡ union (difference (from_list a) (from_list l)) (difference (from_list b) (from_list r)) → from_list {R = R} both ≡ difference u s
  two_deltas s t u a r b l both d e h = h ∙ same _ _ (λ q.
      contains-union o (difference (from_list a) (from_list l)) (difference (from_list b) (from_list r)) q
      ∙ (λ i. contains-difference o (from_list a) (from_list l) q i || contains-difference o (from_list b) (from_list r) q i)
      ∙ (λ i. (gained_at s t a r d q i && not (lost_at t u b l e q i)) || (gained_at t u b l e q i && not (lost_at s t a r d q i)))
      ∙ two_steps (contains s q) (contains t q) (contains u q) ∙ sym (contains-difference o u s q))
