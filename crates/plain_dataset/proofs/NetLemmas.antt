-- A net by the lists that it gives.
use Rattle.std.proofs.Common.{◌≡◌, ℕ, List}
use Rattle.rdf_terms.specs.Quad.{QuadParts}
use Rattle.rdf_terms.specs.declared.term.Term.{Term}
use Rattle.rdf_terms.specs.Lists.{ListsSorted}
use Rattle.rdf_dataset.specs.State.{Change}
use Rattle.rdf_dataset.proofs.CallerLemmas.{net}

pub listed_net : (n : Change) (a r : List QuadParts) (na nr : List Term) (before after : ℕ) → ListsSorted n.added a → ListsSorted n.removed r → ListsSorted n.names_added na → ListsSorted n.names_removed nr
    → before ≡ n.before → after ≡ n.after → net a r na nr before after ≡ n
listed_net n a r na nr before after k l m o p q = λ i. record {
  added = k.lists.all i;
  removed = l.lists.all i;
  names_added = m.lists.all i;
  names_removed = o.lists.all i;
  before = p i;
  after = q i;
}
