use Rattle.rdf_store.proofs.ResultLemmas.{on_err_of}
use Rattle.rdf_store.proofs.GrowthLemmas.{grown_kept, grown_is, err_is, insert_kept, insert_is, insert_new}
use Rattle.rdf_store.proofs.store.Store.insert.Goals as goal

pub invariant_of-self : goal.invariant_of-self
invariant_of-self c = grown_kept _ _ _ c.self.inside.sets _ c.self.invariant c.self.view_is c.in_err-key.ensures.grown

pub returns-in_err-key-clause-err : goal.returns-in_err-key-clause-err
returns-in_err-key-clause-err c = on_err_of c.from_residual.result (grown_is _ _ _ c.self.inside.sets _ c.self.invariant c.self.view_is c.in_err-key.ensures.grown)

pub invariant_of-self-2 : goal.invariant_of-self-2
invariant_of-self-2 c = insert_kept _ _ _ _ _ c.self.invariant c.self.view_is c.in_ok-key.ensures.grown _ _ c.in_ok-key.ensures.number c.insert.result c.insert.ensures.ok c.insert.ensures.err

pub returns-clause-ok : goal.returns-clause-ok
returns-clause-ok c = insert_is _ _ _ _ _ c.self.invariant c.self.view_is c.in_ok-key.ensures.grown _ _ c.in_ok-key.ensures.number c.insert.result c.insert.ensures.ok

pub returns-clause-new : goal.returns-clause-new
returns-clause-new c = insert_new _ _ _ c.self.inside.sets _ c.self.invariant c.self.view_is c.in_ok-key.ensures.grown _ _ c.in_ok-key.ensures.number c.terms_are_held_once.ensures.once c.insert.result c.insert.ensures.new

pub returns-clause-err : goal.returns-clause-err
returns-clause-err c = err_is _ _ _ _ _ c.self.invariant c.self.view_is c.in_ok-key.ensures.grown c.insert.result c.insert.ensures.err
