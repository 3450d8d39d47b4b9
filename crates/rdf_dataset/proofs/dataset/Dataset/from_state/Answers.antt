use Rattle.std.proofs.Common.{◌≡◌, ◌∙◌, sym, subst, ap, ℕ, List, true≢false, ◌||◌}
use Rattle.std.specs.Prelude.{IsTrue}
use Rattle.std.specs.Cmp.{IsTotalOrder}
use Rattle.std.specs.FinSet as set
use Rattle.std.specs.FinSet.{IsAntisymmetric, same_set, contains-union, contains-empty}
use Rattle.std.specs.declared.cmp.Ordering.{Ordering}
use Rattle.rdf_terms.specs.OrderLaws.{quad_cmp_total, quad_cmp-IsAntisymmetric, term_cmp_total, term_cmp-IsAntisymmetric}
use Rattle.rdf_terms.specs.Quad.{QuadParts}
use Rattle.rdf_terms.specs.declared.term.Term.{Term}
use Rattle.rdf_store.specs.Stored.{Stored, empty_stored, with_all}
use Rattle.rdf_dataset.specs.State.{State, IsSound, listed_state}
use Rattle.rdf_dataset.proofs.dataset.Dataset.from_state.Goals as goal

alone : {K : Type 0} {R : K → K → Ordering} (o : IsTotalOrder R) (apart : IsAntisymmetric R) (s : set.FinSet R) → set.union set.empty s ≡ s
alone {K} {R} o apart s = same_set o apart _ _ (λ q. contains-union o set.empty s q ∙ ap (λ b. b || set.contains s q) (contains-empty R q))

nothing : {K : Type 0} {R : K → K → Ordering} (s t : set.FinSet R) → s ≡ set.empty → (q : K) → IsTrue (set.contains s q) → IsTrue (set.contains t q) → ⊥
nothing {K} {R} s t e q h k = true≢false (sym h ∙ ap (λ (z : set.FinSet R). set.contains z q) e ∙ contains-empty R q)

-- an empty store with these quads and names is the state
filled : (empty new : Stored) (next : ℕ) (names : List Term) (quads : List QuadParts) → empty ≡ empty_stored → new ≡ with_all empty quads names
    → (let s : State = record { quads = new.quads; names = new.names; next = next } in s) ≡ listed_state next names quads
filled empty new next names quads e f =
    let q = ap (λ (s : Stored). s.quads) f ∙ ap (λ (s : Stored). set.union s.quads (set.from_list quads)) e ∙ alone quad_cmp_total quad_cmp-IsAntisymmetric (set.from_list quads) in
    let n = ap (λ (s : Stored). s.names) f ∙ ap (λ (s : Stored). set.union s.names (set.from_list names)) e ∙ alone term_cmp_total term_cmp-IsAntisymmetric (set.from_list names) in
    λ i. record { quads = q i; names = n i; next = next }

pub insert_all-requires : goal.insert_all-requires
insert_all-requires c = record {
  new_quads = nothing _ _ (ap (λ (s : Stored). s.quads) c.new-store.ensures);
  new_names = nothing _ _ (ap (λ (s : Stored). s.names) c.new-store.ensures);
}

pub invariant_of-result : goal.invariant_of-result
invariant_of-result c =
    subst IsSound (sym (filled c.new-store.result c.insert_all.new.self c.args.next c.args.names.now c.args.quads.now c.new-store.ensures c.in_ok-insert_all.ensures.ok)) c.requires

pub returns : goal.returns
returns c = filled c.new-store.result c.insert_all.new.self c.args.next c.args.names.now c.args.quads.now c.new-store.ensures c.in_ok-insert_all.ensures.ok
