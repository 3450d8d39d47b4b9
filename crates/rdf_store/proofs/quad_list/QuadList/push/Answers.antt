use Rattle.rdf_store.proofs.ResultLemmas.{either_way, on_err_to, on_ok_to}
use Rattle.rdf_store.proofs.GrowthLemmas.{list_is, list_kept, push_is, push_kept}
use Rattle.rdf_store.proofs.quad_list.QuadList.push.Goals as goal

pub invariant_of-self : goal.invariant_of-self
invariant_of-self c =
    either_way c.append_key.result
    (push_kept c.self.inside.table c.append_key.new.table c.self.inside.keys.items c.append_key.new.keys.items c.args.self.now c.args.quad.now c.self.invariant c.self.view_is c.append_key.ensures.grown)
    (list_kept c.self.inside.table c.append_key.new.table c.self.inside.keys.items c.append_key.new.keys.items c.args.self.now c.args.quad.now c.self.invariant c.self.view_is c.append_key.ensures.grown)
    c.append_key.ensures.ok c.append_key.ensures.err

pub returns-clause-ok : goal.returns-clause-ok
returns-clause-ok c =
    on_ok_to c.append_key.result
    (push_is c.self.inside.table c.append_key.new.table c.self.inside.keys.items c.append_key.new.keys.items c.args.self.now c.args.quad.now c.self.invariant c.self.view_is c.append_key.ensures.grown)
    c.append_key.ensures.ok

pub returns-clause-err : goal.returns-clause-err
returns-clause-err c =
    on_err_to c.append_key.result
    (list_is c.self.inside.table c.append_key.new.table c.self.inside.keys.items c.append_key.new.keys.items c.args.self.now c.args.quad.now c.self.invariant c.self.view_is c.append_key.ensures.grown)
    c.append_key.ensures.err
