use Rattle.rdf_store.proofs.ResultLemmas.{on_ok_to}
use Rattle.rdf_store.proofs.ShownLemmas.{listed_kept, quads_appended}
use Rattle.rdf_store.proofs.store.Store.append_quads.Goals as goal

pub append_tree-requires : goal.append_tree-requires
append_tree-requires c = listed_kept _ _ _ c.self.invariant c.self.view_is _ c.keys.ensures

pub returns-clause-ok : goal.returns-clause-ok
returns-clause-ok c =
    on_ok_to c.append_tree.result (λ e. quads_appended _ _ _ c.self.invariant c.self.view_is c.terms_are_held_once.ensures.once _ _ _ c.keys.ensures e) c.append_tree.ensures.ok
