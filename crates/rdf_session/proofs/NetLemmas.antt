-- The state after a net, and the one before it.
use Rattle.std.proofs.Common.{◌≡◌, Bool, true, false, not, ◌&&◌, ◌||◌, refl, sym, ap, ◌∙◌}
use Rattle.std.specs.declared.cmp.Ordering.{Ordering}
use Rattle.std.specs.Cmp.{IsTotalOrder}
use Rattle.std.specs.FinSet as set
use Rattle.std.specs.FinSet.{contains, IsAntisymmetric, same_set, contains-union, contains-difference, union, difference}
use Rattle.rdf_terms.specs.OrderLaws.{term_cmp_total, term_cmp-IsAntisymmetric, quad_cmp_total, quad_cmp-IsAntisymmetric}
use Rattle.rdf_dataset.specs.State.{State, Change, net_between, applied, turned}

goes_there : (a b : Bool) → ((a || (b && not a)) && not (a && not b)) ≡ b
goes_there true true = refl
goes_there true false = refl
goes_there false true = refl
goes_there false false = refl

there : {K : Type 0} {R : K → K → Ordering} (o : IsTotalOrder R) → IsAntisymmetric R → (s t : set.FinSet R) → difference (union s (difference t s)) (difference s t) ≡ t
there o apart s t = same_set o apart _ _ (λ q.
    contains-difference o (union s (difference t s)) (difference s t) q
    ∙ (λ i. (contains-union o s (difference t s) q ∙ ap (λ b. contains s q || b) (contains-difference o t s q)) i && not (contains-difference o s t q i))
    ∙ goes_there (contains s q) (contains t q))

applied_net : (s t : State) → applied (net_between s t) s ≡ t
applied_net s t = λ i. record {
  quads = there quad_cmp_total quad_cmp-IsAntisymmetric s.quads t.quads i;
  names = there term_cmp_total term_cmp-IsAntisymmetric s.names t.names i;
  next = t.next;
}

-- the state after the net between two states is the second
pub applied_is : (s t : State) (n : Change) → n ≡ net_between s t → applied n s ≡ t
applied_is s t n e = ap (λ (c : Change). applied c s) e ∙ applied_net s t

-- and the one before it the first
pub turned_is : (s t : State) (n : Change) → n ≡ net_between s t → applied (turned n) t ≡ s
turned_is s t n e = ap (λ (c : Change). applied (turned c) t) e ∙ applied_net t s

-- a net leads to one state
pub one_end : (s t u : State) (n : Change) → n ≡ net_between s t → n ≡ net_between s u → t ≡ u
one_end s t u n e f = sym (applied_is s t n e) ∙ applied_is s u n f
