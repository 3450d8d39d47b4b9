use Rattle.rdf_store.proofs.ResultLemmas.{on_err_of}
use Rattle.rdf_store.proofs.GrowthLemmas.{grown_kept, grown_is, err_is, add_kept, add_is, add_new}
use Rattle.rdf_store.proofs.store.Store.add_name.Goals as goal

pub invariant_of-self : goal.invariant_of-self
invariant_of-self c = grown_kept _ _ _ c.self.inside.sets _ c.self.invariant c.self.view_is c.in_err-number.ensures.grown

pub returns-in_err-number-clause-err : goal.returns-in_err-number-clause-err
returns-in_err-number-clause-err c = on_err_of c.from_residual.result (grown_is _ _ _ c.self.inside.sets _ c.self.invariant c.self.view_is c.in_err-number.ensures.grown)

pub invariant_of-self-2 : goal.invariant_of-self-2
invariant_of-self-2 c = add_kept _ _ _ _ _ c.self.invariant c.self.view_is c.in_ok-number.ensures.grown _ _ c.in_ok-number.ensures.number c.add_name.result c.add_name.ensures.ok c.add_name.ensures.err

pub returns-clause-ok : goal.returns-clause-ok
returns-clause-ok c = add_is _ _ _ _ _ c.self.invariant c.self.view_is c.in_ok-number.ensures.grown _ _ c.in_ok-number.ensures.number c.add_name.result c.add_name.ensures.ok

pub returns-clause-new : goal.returns-clause-new
returns-clause-new c = add_new _ _ _ c.self.inside.sets _ c.self.invariant c.self.view_is c.in_ok-number.ensures.grown _ _ c.in_ok-number.ensures.number c.terms_are_held_once.ensures.once c.add_name.result c.add_name.ensures.new

pub returns-clause-err : goal.returns-clause-err
returns-clause-err c = err_is _ _ _ _ _ c.self.invariant c.self.view_is c.in_ok-number.ensures.grown c.add_name.result c.add_name.ensures.err
