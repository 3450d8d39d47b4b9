-- The net that quads make which go and others that come.
use Rattle.std.proofs.Common.{◌≡◌, ℕ, ◌+◌, ◌≤◌, Bool, true, false, ◌||◌, ◌&&◌, not, List, refl, sym, ap, ◌∙◌, IsTrue}
use Rattle.std.specs.Prelude.{filter}
use Rattle.std.specs.FinSet.{contains, contains-difference, contains-union, difference, from_list, same_set, union}
use Rattle.rdf_terms.specs.Below.{AreBelow}
use Rattle.rdf_terms.specs.Order.{quad_cmp}
use Rattle.rdf_terms.specs.OrderLaws.{quad_cmp_total, quad_cmp-IsAntisymmetric}
use Rattle.rdf_terms.specs.Quad.{QuadParts}
use Rattle.rdf_terms.specs.declared.term.Term.{Term}
use Rattle.rdf_sets.specs.Delta.{IsDelta}
use Rattle.rdf_sets.proofs.CallerLemmas.{filter_contains}
use Rattle.rdf_dataset.specs.Exchange.{exchanged}
use Rattle.rdf_dataset.specs.Loading.{names_with, quads_with}
use Rattle.rdf_dataset.specs.State.{State, Change, Quads, IsSound, last_number, net_between, with_blanks}
use Rattle.rdf_dataset.proofs.LoadingLemmas.{Sound, sound_with_all}
use Rattle.rdf_dataset.proofs.StateLemmas.{first_of, sound_with_blanks, state}

-- ---- the quads

new_one : (s g c : Bool) → ((s || c) && not s) ≡ (((s && not g) || c) && not s)
new_one true true true = refl
new_one true true false = refl
new_one true false c = refl
new_one false g c = refl

-- what is there once some quads have gone and others have come
abbrev pub left_with : Quads → List QuadParts → Quads → Quads
left_with s gone come = union (difference s (from_list gone)) come

contains-left : (s : Quads) (gone : List QuadParts) (come : Quads) (q : QuadParts) → contains (left_with s gone come) q ≡ ((contains s q && not (contains (from_list {R = quad_cmp} gone) q)) || contains come q)
contains-left s gone come q =
    contains-union quad_cmp_total (difference s (from_list gone)) come q ∙ ap (λ b. b || contains come q) (contains-difference quad_cmp_total s (from_list gone) q)

-- those that were there and don't come again are lost
pub lost_ones : (s : Quads) (gone : List QuadParts) (come : Quads) → difference (from_list {R = quad_cmp} (filter (contains s) gone)) come ≡ difference s (left_with s gone come)
lost_ones s gone come = same_set quad_cmp_total quad_cmp-IsAntisymmetric _ _ (λ q.
    contains-difference quad_cmp_total (from_list (filter (contains s) gone)) come q
    ∙ ap (λ b. b && not (contains come q)) (filter_contains quad_cmp_total quad_cmp-IsAntisymmetric (contains s) gone q)
    ∙ turned (contains s q) (contains (from_list gone) q) (contains come q)
    ∙ sym (contains-difference quad_cmp_total s (left_with s gone come) q ∙ ap (λ b. contains s q && not b) (contains-left s gone come q)))
  where
    turned : (s g c : Bool) → ((g && s) && not c) ≡ (s && not ((s && not g) || c))
    turned true true c = refl
    turned true false c = refl
    turned false true c = refl
    turned false false c = refl

-- those that come and weren't there are new
pub come_new : (s : Quads) (gone : List QuadParts) (come : List QuadParts) → difference (quads_with s come) s ≡ difference (left_with s gone (from_list come)) s
come_new s gone come = same_set quad_cmp_total quad_cmp-IsAntisymmetric _ _ (λ q.
    contains-difference quad_cmp_total (quads_with s come) s q
    ∙ ap (λ b. b && not (contains s q)) (contains-union quad_cmp_total s (from_list come) q)
    ∙ new_one (contains s q) (contains (from_list gone) q) (contains (from_list come) q)
    ∙ sym (contains-difference quad_cmp_total (left_with s gone (from_list come)) s q ∙ ap (λ b. b && not (contains s q)) (contains-left s gone (from_list come) q)))

-- ---- soundness

sound_with_fewer : (s : State) (gone : Quads) → IsSound s → IsSound (state (difference s.quads gone) s.names s.next)
sound_with_fewer s gone h =
    let still = λ (q : QuadParts) (m : IsTrue (contains (difference s.quads gone) q)). first_of (contains s.quads q) _ (sym (contains-difference quad_cmp_total s.quads gone q) ∙ m) in
    record { right_quads = λ q m. h.right_quads q (still q m); right_names = h.right_names; named = λ q m. h.named q (still q m); quads_below = λ q m. h.quads_below q (still q m); names_below = h.names_below; limit = h.limit }

pub sound_exchanged : (s : State) (gone : List QuadParts) (blanks : ℕ) (come : List QuadParts) → IsSound s → s.next + blanks ≤ last_number → AreBelow (s.next + blanks) come → Sound come → IsSound (exchanged s gone blanks come)
sound_exchanged s gone blanks come h limit b r =
    let fewer = state (difference s.quads (from_list gone)) s.names s.next in
    sound_with_all (with_blanks fewer blanks) come (sound_with_blanks fewer blanks (sound_with_fewer s (from_list gone) h) limit) r b

-- ---- the net

pub net_exchanged : (s : State) (gone : List QuadParts) (blanks : ℕ) (come sorted : List QuadParts) (added removed : List QuadParts) (names_added names_removed : List Term) (before after : ℕ)
    → from_list {R = quad_cmp} sorted ≡ from_list come
    → from_list {R = quad_cmp} added ≡ difference (quads_with s.quads sorted) s.quads → from_list {R = quad_cmp} removed ≡ difference s.quads (left_with s.quads gone (from_list come))
    → IsDelta s.names (names_with s.names come) names_added names_removed → before ≡ s.next → after ≡ s.next + blanks
    → (let net : Change = record { added = from_list added; removed = from_list removed; names_added = from_list names_added; names_removed = from_list names_removed; before = before; after = after } in
    net ≡ net_between s (exchanged s gone blanks come))
net_exchanged s gone blanks come sorted added removed names_added names_removed before after same a r n b c = λ i. record {
  added = (a ∙ ap (λ z. difference (union s.quads z) s.quads) same ∙ come_new s.quads gone come) i;
  removed = r i;
  names_added = n.gained i;
  names_removed = n.lost i;
  before = b i;
  after = c i;
}
