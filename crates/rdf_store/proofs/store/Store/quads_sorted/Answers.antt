use Rattle.rdf_store.proofs.ShownLemmas.{listed_kept, quads_in_order}
use Rattle.rdf_store.proofs.store.Store.quads_sorted.Goals as goal

pub quads_in_order-requires : goal.quads_in_order-requires
quads_in_order-requires c = listed_kept _ _ _ c.self.invariant c.self.view_is _ c.keys.ensures

pub returns : goal.returns
returns c =
    quads_in_order _ _ _ c.self.invariant c.self.view_is c.terms_are_held_once.ensures.once
    _ _ c.keys.ensures c.in_ok-quads.ensures.same c.in_ok-quads.ensures.sorted
