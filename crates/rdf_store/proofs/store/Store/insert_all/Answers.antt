use Rattle.std.proofs.Common.{◌∙◌, refl}
use Rattle.rdf_terms.specs.Table.{IsIdOf}
use Rattle.rdf_orders.specs.Quads.{quad_of}
use Rattle.rdf_store.specs.Inside.Numbers.{AreNumbersOf}
use Rattle.rdf_store.proofs.ResultLemmas.{on_err_of}
use Rattle.rdf_store.proofs.ListLemmas.{matched_nothing}
use Rattle.rdf_store.proofs.NumberLemmas.{grown_then}
use Rattle.rdf_store.proofs.GrowthLemmas.{keys_passed, ids_passed, grown_kept, grown_is, err_is, all_new_keys, all_new_ids, all_kept, all_is}
use Rattle.rdf_store.proofs.store.Store.insert_all.Goals as goal

pub invariant_of-self : goal.invariant_of-self
invariant_of-self c = grown_kept _ _ _ c.self.inside.sets _ c.self.invariant c.self.view_is c.in_err-keys.ensures.grown

pub returns-in_err-keys-clause-err : goal.returns-in_err-keys-clause-err
returns-in_err-keys-clause-err c = on_err_of c.from_residual.result (grown_is _ _ _ c.self.inside.sets _ c.self.invariant c.self.view_is c.in_err-keys.ensures.grown)

pub invariant_of-self-in_err-numbers : goal.invariant_of-self-in_err-numbers
invariant_of-self-in_err-numbers c = grown_kept _ _ _ c.self.inside.sets _ c.self.invariant c.self.view_is (grown_then _ _ _ c.in_ok-keys.ensures.grown c.in_err-numbers.ensures.grown)

pub returns-in_err-numbers-clause-err : goal.returns-in_err-numbers-clause-err
returns-in_err-numbers-clause-err c =
    on_err_of c.from_residual-in_err-numbers.result
    (grown_is _ _ _ c.self.inside.sets _ c.self.invariant c.self.view_is (grown_then _ _ _ c.in_ok-keys.ensures.grown c.in_err-numbers.ensures.grown))

pub insert_list-requires-clause-new_quads : goal.insert_list-requires-clause-new_quads
insert_list-requires-clause-new_quads c =
    all_new_keys _ _ _ c.self.inside.sets _ c.self.invariant c.self.view_is (grown_then _ _ _ c.in_ok-keys.ensures.grown c.in_ok-numbers.ensures.grown)
    c.in_ok-keys.keys.items c.deref.result.now c.args.quads.now c.args.names.now
    (keys_passed _ _ c.in_ok-keys.keys.items c.in_ok-keys.keys.items c.args.quads.now c.in_ok-numbers.ensures.grown refl c.in_ok-keys.ensures.numbers)
    (ids_passed _ c.in_ok-numbers.numbers.items c.deref.result.now c.args.names.now c.deref.ensures.value c.in_ok-numbers.ensures.numbers) c.requires.new_quads

pub insert_list-requires-clause-new_names : goal.insert_list-requires-clause-new_names
insert_list-requires-clause-new_names c =
    all_new_ids _ _ _ c.self.inside.sets _ c.self.invariant c.self.view_is (grown_then _ _ _ c.in_ok-keys.ensures.grown c.in_ok-numbers.ensures.grown)
    c.in_ok-keys.keys.items c.deref.result.now c.args.quads.now c.args.names.now
    (keys_passed _ _ c.in_ok-keys.keys.items c.in_ok-keys.keys.items c.args.quads.now c.in_ok-numbers.ensures.grown refl c.in_ok-keys.ensures.numbers)
    (ids_passed _ c.in_ok-numbers.numbers.items c.deref.result.now c.args.names.now c.deref.ensures.value c.in_ok-numbers.ensures.numbers) c.requires.new_names

pub invariant_of-self-2 : goal.invariant_of-self-2
invariant_of-self-2 c =
    all_kept _ _ _ _ _ c.self.invariant c.self.view_is (grown_then _ _ _ c.in_ok-keys.ensures.grown c.in_ok-numbers.ensures.grown)
    c.in_ok-keys.keys.items c.deref.result.now c.args.quads.now c.args.names.now
    (keys_passed _ _ c.in_ok-keys.keys.items c.in_ok-keys.keys.items c.args.quads.now c.in_ok-numbers.ensures.grown refl c.in_ok-keys.ensures.numbers)
    (ids_passed _ c.in_ok-numbers.numbers.items c.deref.result.now c.args.names.now c.deref.ensures.value c.in_ok-numbers.ensures.numbers)
    c.insert_list.result c.insert_list.ensures.ok c.insert_list.ensures.err

pub returns-clause-ok : goal.returns-clause-ok
returns-clause-ok c =
    all_is _ _ _ _ _ c.self.invariant c.self.view_is (grown_then _ _ _ c.in_ok-keys.ensures.grown c.in_ok-numbers.ensures.grown)
    c.in_ok-keys.keys.items c.deref.result.now c.args.quads.now c.args.names.now
    (keys_passed _ _ c.in_ok-keys.keys.items c.in_ok-keys.keys.items c.args.quads.now c.in_ok-numbers.ensures.grown refl c.in_ok-keys.ensures.numbers)
    (ids_passed _ c.in_ok-numbers.numbers.items c.deref.result.now c.args.names.now c.deref.ensures.value c.in_ok-numbers.ensures.numbers)
    c.insert_list.result c.insert_list.ensures.ok

pub returns-clause-err : goal.returns-clause-err
returns-clause-err c =
    err_is _ _ _ _ _ c.self.invariant c.self.view_is (grown_then _ _ _ c.in_ok-keys.ensures.grown c.in_ok-numbers.ensures.grown) c.insert_list.result c.insert_list.ensures.err

pub returns-clause-free : goal.returns-clause-free
returns-clause-free c no_quads no_names =
    c.insert_list.ensures.free
    (matched_nothing (λ k q. AreNumbersOf c.number_quads.new.table (quad_of k) q) c.in_ok-keys.keys.items c.args.quads.now c.in_ok-keys.ensures.numbers no_quads)
    (c.deref.ensures.value ∙ matched_nothing (λ id t. IsIdOf c.number_terms.new.table id t) c.in_ok-numbers.numbers.items c.args.names.now c.in_ok-numbers.ensures.numbers no_names)
