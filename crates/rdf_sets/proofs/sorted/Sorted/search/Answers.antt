use Rattle.std.proofs.Common.{rules}
use Rattle.std.proofs.lemmas.Fn.{always_returns_same}
use Rattle.rdf_sets.proofs.SortedLemmas.{search_found, search_gap}
use Rattle.rdf_sets.proofs.sorted.Sorted.search.Goals as goal

pub returns-clause-found : goal.returns-clause-found
returns-clause-found g c =
    let r = c.binary_search_by.ensures.position (λ y. g.T.Item.order y c.args.item.now) (always_returns_same _ _ _ (λ a r f called. (search rules, search rules))) in
    rw (← c.self.view_is, ← c.deref.ensures.value) (search_found g.met.T.Item.in_order g.met.T.Item.apart c.deref.result.now c.args.item.now c.binary_search_by.result c.binary_search_by.ensures.bound r)

pub returns-clause-absent : goal.returns-clause-absent
returns-clause-absent g c =
    let r = c.binary_search_by.ensures.position (λ y. g.T.Item.order y c.args.item.now) (always_returns_same _ _ _ (λ a r f called. (search rules, search rules))) in
    rw (← c.self.view_is, ← c.deref.ensures.value) (search_gap g.met.T.Item.in_order g.met.T.Item.apart c.deref.result.now c.args.item.now c.binary_search_by.result (rw c.deref.ensures.value c.self.invariant) c.binary_search_by.ensures.bound r)
