-- What a store lists, in the words of datasets, and what it goes to.
use Rattle.std.proofs.Common.{◌≡◌, ℕ, Bool, true, refl, List, [], ◌++◌, sym, ap, ◌∙◌, subst}
use Rattle.std.specs.declared.cmp.Ordering.{Ordering}
use Rattle.std.specs.FinSet as set
use Rattle.std.specs.FinSet.{from_list, union, difference}
use Rattle.rdf_terms.specs.declared.term.Term.{Term}
use Rattle.rdf_terms.specs.Quad.{QuadParts}
use Rattle.rdf_store.specs.Stored as stored
use Rattle.rdf_store.specs.Stored.{Stored, with_all, without_all}
use Rattle.rdf_dataset.specs.State.{AppendsSome, Quads, State}
use Rattle.rdf_terms.specs.Lists.{AppendsOnce, ListsOnce}
use Rattle.rdf_dataset.specs.Inside.Delta.{IsStateDelta}
use Rattle.rdf_dataset.proofs.StateLemmas.{gone_to, state}

-- a list that was empty lists what it has gained
pub lists_gained : {K : Type 0} {R : K → K → Ordering} (members : set.FinSet R) (old new : List K) → AppendsOnce members old new → old ≡ [] → ListsOnce members new
lists_gained members old new a e = subst (ListsOnce members) (sym (a.appended ∙ ap (λ xs. xs ++ a.found) e)) a.each_once

-- some of a look-up's quads
pub some_shown : (part quads : Quads) (all : Bool) (old new : List QuadParts) → part ≡ quads → stored.AppendsSome part all old new → AppendsSome quads all old new
some_shown part quads all old new e a = record {
  some = a.some;
  within = λ q h. subst (λ z. set.contains z q ≡ true) e (a.within q h);
  appended = a.appended;
  whole = λ h. a.whole h ∙ e;
}

-- where they are all of them, they are listed
pub all_listed : (quads : Quads) (old new : List QuadParts) → old ≡ [] → AppendsSome quads true old new → ListsOnce quads new
all_listed quads old new none a = subst (λ z. ListsOnce z new) (a.whole refl) (lists_gained a.some old new a.appended none)

-- quads and names of a state that leads to another
pub stored_to : (from : Stored) (before : ℕ) (t : State) (a r a' r' : List QuadParts) (na nr na' nr' : List Term) (after : ℕ) (mid new : Stored) → IsStateDelta (state from.quads from.names before) t a r na nr after
    → a' ≡ a → r' ≡ r → na' ≡ na → nr' ≡ nr → mid ≡ with_all from a' na' → new ≡ without_all mid r' nr' → state new.quads new.names after ≡ t
stored_to from before t a r a' r' na nr na' nr' after mid new l e f g h m n =
    gone_to (state from.quads from.names before) t a r na nr after mid.quads new.quads mid.names new.names l
    (ap (λ (s : Stored). s.quads) m ∙ ap (λ xs. union from.quads (from_list xs)) e) (ap (λ (s : Stored). s.quads) n ∙ ap (λ xs. difference mid.quads (from_list xs)) f)
    (ap (λ (s : Stored). s.names) m ∙ ap (λ xs. union from.names (from_list xs)) g) (ap (λ (s : Stored). s.names) n ∙ ap (λ xs. difference mid.names (from_list xs)) h)
