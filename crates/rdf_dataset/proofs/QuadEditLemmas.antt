-- What an insertion and a removal make of a delta of quads whose added ones are a set, and what it lists.
use Rattle.std.proofs.Common.{◌≡◌, ℕ, ◌+◌, ◌≤◌, arith, Bool, true, false, not, ◌&&◌, ◌||◌, List, [], ◌++◌, refl, sym, ap, ◌∙◌, subst}
use Rattle.std.specs.Prelude.{filter, Result, Ok, Err, OnOk, OnErr}
use Rattle.std.specs.FinSet as set
use Rattle.std.specs.FinSet.{contains, from_list, same_set, contains-from_list, contains-items, insert, remove}
use Rattle.rdf_terms.specs.declared.quad.GraphName.{GraphName}
use Rattle.rdf_terms.specs.declared.quad.GraphName.TheVariants.{Default, Named}
use Rattle.rdf_terms.specs.declared.term.Term.{Term}
use Rattle.rdf_terms.specs.Quad.{QuadParts}
use Rattle.rdf_terms.specs.Order.{quad_cmp, term_cmp}
use Rattle.rdf_terms.specs.OrderLaws.{quad_cmp_total, quad_cmp-IsAntisymmetric}
use Rattle.rdf_dataset.specs.State.{State, Change, Names, Quads, net_between, with_graph, with_quad}
use Rattle.rdf_terms.specs.Lists.{AppendsOnce, ListsOnce}
use Rattle.rdf_sets.specs.Delta.{IsDelta}
use Rattle.rdf_dataset.specs.Inside.Delta.{IsQuadDelta}
use Rattle.rdf_sets.proofs.CallerLemmas.{no_delta, gained_at, lost_at, has_known, has_new, lost_known, insert_known, insert_new, remove_known, remove_new, lists_both, retained, kept_or_new, not_both}

abbrev items_of : Quads → List QuadParts
items_of a = set.items a

listed : (a : Quads) → from_list {R = quad_cmp} (items_of a) ≡ a
listed a = same_set quad_cmp_total quad_cmp-IsAntisymmetric _ _ (λ q. contains-from_list quad_cmp_total (items_of a) q ∙ sym (contains-items a q))

to_lists : (s t a : Quads) (r : List QuadParts) → IsQuadDelta s t a r → IsDelta s t (items_of a) r
to_lists s t a r d = record { gained = listed a ∙ d.gained; lost = d.lost }

from_lists : (s t a : Quads) (r : List QuadParts) → IsDelta s t (items_of a) r → IsQuadDelta s t a r
from_lists s t a r d = record { gained = sym (listed a) ∙ d.gained; lost = d.lost }

pub no_quad_delta : (s : Quads) → IsQuadDelta s s set.empty []
no_quad_delta s =
    let d = no_delta quad_cmp_total quad_cmp-IsAntisymmetric s in
    record { gained = d.gained; lost = d.lost }

module _ (s t a : Quads) (r : List QuadParts) (d : IsQuadDelta s t a r) (q : QuadParts) where
  pub has_known_quad : true ≡ contains s q → not (contains (from_list {R = quad_cmp} r) q) ≡ contains t q
  has_known_quad h = has_known quad_cmp_total quad_cmp-IsAntisymmetric s t (items_of a) r (to_lists s t a r d) q h

  pub has_new_quad : false ≡ contains s q → contains a q ≡ contains t q
  has_new_quad h = ap (λ z. contains z q) (sym (listed a)) ∙ has_new quad_cmp_total quad_cmp-IsAntisymmetric s t (items_of a) r (to_lists s t a r d) q h

  pub lost_known_quad : true ≡ contains s q → contains (from_list {R = quad_cmp} r) q ≡ not (contains t q)
  lost_known_quad h = lost_known quad_cmp_total quad_cmp-IsAntisymmetric s t (items_of a) r (to_lists s t a r d) q h

  pub insert_known_quad : (l : List QuadParts) → true ≡ contains s q → from_list {R = quad_cmp} l ≡ remove (from_list r) q → IsQuadDelta s (insert t q) a l
  insert_known_quad l h e = from_lists s (insert t q) a l (insert_known quad_cmp_total quad_cmp-IsAntisymmetric s t (items_of a) r (to_lists s t a r d) q l h e)

  pub insert_new_quad : (b : Quads) → false ≡ contains s q → b ≡ insert a q → IsQuadDelta s (insert t q) b r
  insert_new_quad b h e =
      from_lists s (insert t q) b r
      (insert_new quad_cmp_total quad_cmp-IsAntisymmetric s t (items_of a) r (to_lists s t a r d) q (items_of b) h (listed b ∙ e ∙ ap (λ z. insert z q) (sym (listed a))))

  pub remove_known_quad : (l : List QuadParts) → true ≡ contains s q → from_list {R = quad_cmp} l ≡ insert (from_list r) q → IsQuadDelta s (remove t q) a l
  remove_known_quad l h e = from_lists s (remove t q) a l (remove_known quad_cmp_total quad_cmp-IsAntisymmetric s t (items_of a) r (to_lists s t a r d) q l h e)

  pub remove_new_quad : (b : Quads) → false ≡ contains s q → b ≡ remove a q → IsQuadDelta s (remove t q) b r
  remove_new_quad b h e =
      from_lists s (remove t q) b r
      (remove_new quad_cmp_total quad_cmp-IsAntisymmetric s t (items_of a) r (to_lists s t a r d) q (items_of b) h (listed b ∙ e ∙ ap (λ z. remove z q) (sym (listed a))))

-- what lies beneath and wasn't removed, and what was added
pub amended : (s t a : Quads) (r : List QuadParts) (p : QuadParts → Bool) (xs kept new : List QuadParts) → IsQuadDelta s t a r → ListsOnce (set.retain s p) xs
    → kept ≡ filter (λ x. not (contains (from_list {R = quad_cmp} r) x)) xs → AppendsOnce (set.retain a p) kept new → ListsOnce (set.retain t p) new
amended s t a r p xs kept new d l e f = subst (ListsOnce (set.retain t p)) (sym (f.appended ∙ ap (λ zs. zs ++ f.found) e)) both
  where
    lists : IsDelta s t (items_of a) r
    lists = to_lists s t a r d

    here : (q : QuadParts) → contains (from_list {R = quad_cmp} f.found) q ≡ ((contains t q && not (contains s q)) && p q)
    here q =
        ap (λ z. contains z q) f.each_once.all ∙ retained quad_cmp_total quad_cmp-IsAntisymmetric a p q
        ∙ ap (λ b. b && p q) (ap (λ z. contains z q) (sym (listed a)) ∙ gained_at quad_cmp_total quad_cmp-IsAntisymmetric s t (items_of a) r lists q)

    both : ListsOnce (set.retain t p) (filter (λ x. not (contains (from_list {R = quad_cmp} r) x)) xs ++ f.found)
    both =
        lists_both quad_cmp_total quad_cmp-IsAntisymmetric (set.retain s p) (set.retain t p) (λ x. not (contains (from_list {R = quad_cmp} r) x)) xs f.found l
        (f.each_once.once ∙ ap set.len (sym f.each_once.all))
        (λ q m. retained quad_cmp_total quad_cmp-IsAntisymmetric s p q ∙ not_both (contains s q) (contains t q) (p q) (sym (here q) ∙ m))
        (λ q. (λ i. (retained quad_cmp_total quad_cmp-IsAntisymmetric s p q i && not (lost_at quad_cmp_total quad_cmp-IsAntisymmetric s t (items_of a) r lists q i)) || here q i)
        ∙ kept_or_new (contains s q) (contains t q) (p q) ∙ sym (retained quad_cmp_total quad_cmp-IsAntisymmetric t p q))

pub few_more : (old kept new looked : ℕ) → kept ≤ old → new ≡ kept + looked → new ≤ old + looked
few_more old kept new looked h e = omega arith

-- ---- nets

abbrev pub net : Quads → List QuadParts → List Term → List Term → ℕ → ℕ → Change
net a r na nr before after = record { added = a; removed = from_list r; names_added = from_list na; names_removed = from_list nr; before = before; after = after }

module _ (s t : State) (a : Quads) (r : List QuadParts) (na nr : List Term) (before after : ℕ) (e : net a r na nr before after ≡ net_between s t) where
  pub net_quads : IsQuadDelta s.quads t.quads a r
  net_quads = record { gained = ap (λ (n : Change). n.added) e; lost = ap (λ (n : Change). n.removed) e }

  pub net_names : IsDelta s.names t.names na nr
  net_names = record { gained = ap (λ (n : Change). n.names_added) e; lost = ap (λ (n : Change). n.names_removed) e }

pub net_with_quad : (s t : State) (q : QuadParts) (a : Quads) (r : List QuadParts) (b : Quads) (l : List QuadParts) (na nr nb nl : List Term) (before after : ℕ) → net a r na nr before after ≡ net_between s t
    → IsQuadDelta s.quads (insert t.quads q) b l → IsDelta s.names (with_graph t.names q.graph) nb nl → net b l nb nl before after ≡ net_between s (with_quad t q)
net_with_quad s t q a r b l na nr nb nl before after e d f = λ i. record {
  added = d.gained i;
  removed = d.lost i;
  names_added = f.gained i;
  names_removed = f.lost i;
  before = ap (λ (n : Change). n.before) e i;
  after = ap (λ (n : Change). n.after) e i;
}

-- the default graph has no name
pub default_delta : (s t : Names) (g : GraphName) (a r : List Term) → ((n : Term) → g ≡ Named n → ⊥) → IsDelta s t a r → IsDelta s (with_graph t g) a r
default_delta s t Default a r h d = d
default_delta s t (Named n) a r h d = absurd (h n refl)

-- the same sets, held in other lists
pub same_net : (a b : Quads) (r l : List QuadParts) (na nb nr nl : List Term) (before after : ℕ) → a ≡ b → r ≡ l → from_list {R = term_cmp} na ≡ from_list nb → nr ≡ nl → net a r na nr before after ≡ net b l nb nl before after
same_net a b r l na nb nr nl before after d e f g = λ i. record {
  added = d i;
  removed = from_list (e i);
  names_added = f i;
  names_removed = from_list (g i);
  before = before;
  after = after;
}

pub on_ok_both : {T E P Q S : Type 0} (r : Result T E) → (P → Q → S) → OnOk r P → OnOk r Q → OnOk r S
on_ok_both (Ok x) f p q = f p q
on_ok_both (Err e) f p q = tt

pub on_err_both : {T E P Q S : Type 0} (r : Result T E) → (P → Q → S) → OnErr r P → OnErr r Q → OnErr r S
on_err_both (Ok x) f p q = tt
on_err_both (Err e) f p q = f p q
