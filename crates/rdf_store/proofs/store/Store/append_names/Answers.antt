use Rattle.rdf_store.proofs.ResultLemmas.{on_ok_to}
use Rattle.rdf_store.proofs.ShownLemmas.{listed_ids_kept, names_appended}
use Rattle.rdf_store.proofs.store.Store.append_names.Goals as goal

pub append_terms-requires : goal.append_terms-requires
append_terms-requires c = listed_ids_kept _ _ _ c.self.invariant c.self.view_is _ c.names.ensures

pub returns-clause-ok : goal.returns-clause-ok
returns-clause-ok c =
    on_ok_to c.append_terms.result (λ e. names_appended _ _ _ c.self.invariant c.self.view_is c.terms_are_held_once.ensures.once _ _ _ c.names.ensures e) c.append_terms.ensures.ok
