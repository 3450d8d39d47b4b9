use Rattle.std.proofs.Common.{◌∙◌, ap, refl, []}
use Rattle.rdf_orders.specs.Contents.{Contents, with_all}
use Rattle.rdf_store.proofs.NameLemmas.{names_behind, no_names_yet, none_left, none_right}
use Rattle.rdf_store.proofs.quad_list.sets_of.Goals as goal

pub insert_list-requires : goal.insert_list-requires
insert_list-requires c = record {
  new_quads = none_left _ _ (ap (λ (s : Contents). s.quads) c.new-sets.ensures);
  new_names = none_right _ _ refl;
}

pub insert_all-requires-clause-new_quads : goal.insert_all-requires-clause-new_quads
insert_all-requires-clause-new_quads c = none_right _ _ refl

pub insert_all-requires-clause-new_names : goal.insert_all-requires-clause-new_names
insert_all-requires-clause-new_names c =
    none_left _ _ (no_names_yet c.insert_list.new.self c.args.keys.items (c.in_ok-insert_list.ensures.ok ∙ ap (λ (s : Contents). with_all s c.args.keys.items []) c.new-sets.ensures))

pub returns : goal.returns
returns c =
    names_behind c.insert_list.new.self c.insert_all.new.self c.args.keys.items c.keys.result.now.keys c.in_ok-names.names.items
    (c.in_ok-insert_list.ensures.ok ∙ ap (λ (s : Contents). with_all s c.args.keys.items []) c.new-sets.ensures) c.keys.ensures c.in_ok-names.ensures
    (c.in_ok-insert_all.ensures.ok ∙ ap (with_all c.insert_list.new.self []) c.deref.ensures.value)
