-- The state that gathered quads make of an empty one.
use Rattle.std.proofs.Common.{◌≡◌, ℕ, ◌≤◌, ◌||◌, List, inl, map, refl, sym, ap, subst, ◌∙◌, zero-add, arith}
use Rattle.std.specs.declared.cmp.Ordering.{Ordering}
use Rattle.std.specs.Cmp.{IsTotalOrder}
use Rattle.std.specs.List.{flat_map}
use Rattle.std.specs.FinSet as set
use Rattle.std.specs.FinSet.{IsAntisymmetric, contains-union, contains-empty, same_set}
use Rattle.rdf_terms.specs.Below.{AreBelow}
use Rattle.rdf_terms.specs.Quad.{QuadParts}
use Rattle.rdf_terms.specs.Order.{quad_cmp, term_cmp}
use Rattle.rdf_terms.specs.OrderLaws.{term_cmp_total, term_cmp-IsAntisymmetric, quad_cmp_total, quad_cmp-IsAntisymmetric}
use Rattle.rdf_store.specs.Stored.{Stored}
use Rattle.rdf_store.specs.Gathered.{gathered}
use Rattle.rdf_dataset.specs.Insertion.{names_in, quad_from, with_data}
use Rattle.rdf_dataset.specs.State.{IsSound, empty_state, last_number}
use Rattle.rdf_dataset.proofs.LoadingLemmas.{Sound, all_stay, sound_with_data}
use Rattle.rdf_dataset.proofs.StateLemmas.{same_state, sound_empty, state}

alone : {K : Type 0} {R : K → K → Ordering} (o : IsTotalOrder R) (apart : IsAntisymmetric R) (s : set.FinSet R) → s ≡ set.union set.empty s
alone {K} {R} o apart s = sym (same_set o apart _ _ (λ q. contains-union o set.empty s q ∙ ap (λ b. b || set.contains s q) (contains-empty R q)))

module _ (s : Stored) (quads : List QuadParts) (blanks : ℕ) (is : s ≡ gathered quads) (below : AreBelow blanks quads) where
  stay : quads ≡ map (quad_from 0) quads
  stay = all_stay 0 blanks quads (inl refl) below

  pub gathered_state : state s.quads s.names blanks ≡ with_data (empty_state 0) quads blanks
  gathered_state = same_state
      (ap (λ (t : Stored). t.quads) is ∙ ap (set.from_list {R = quad_cmp}) stay ∙ alone quad_cmp_total quad_cmp-IsAntisymmetric (set.from_list (map (quad_from 0) quads)))
      (ap (λ (t : Stored). t.names) is ∙ ap (λ qs. set.from_list {R = term_cmp} (flat_map names_in qs)) stay ∙ alone term_cmp_total term_cmp-IsAntisymmetric (set.from_list (flat_map names_in (map (quad_from 0) quads))))
      (sym (zero-add blanks))

  pub gathered_sound : Sound quads → blanks ≤ last_number → IsSound (state s.quads s.names blanks)
  gathered_sound sound limit =
      subst IsSound (sym gathered_state) (sound_with_data (empty_state 0) quads blanks (sound_empty _ _ _ refl refl (omega arith)) (omega arith) below (subst Sound stay sound))
