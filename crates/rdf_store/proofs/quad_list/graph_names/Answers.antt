use Rattle.std.proofs.Common.{◌∙◌, ap}
use Rattle.std.specs.List.{flat_map}
use Rattle.rdf_orders.specs.Contents.{ids_of}
use Rattle.rdf_store.specs.Inside.Names.{name_in}
use Rattle.rdf_store.proofs.ListLemmas.{all_given}
use Rattle.rdf_store.proofs.NameLemmas.{next_names}
use Rattle.rdf_store.proofs.quad_list.graph_names.Goals as goal

pub loop-key-preserved : goal.loop-key-preserved
loop-key-preserved c = next_names c.loop-key.names.items c.add_name.new.names.items c.loop-key.yielded c.in-Some.key c.loop-key.invariant c.in_ok-add_name.ensures

pub returns : goal.returns
returns c =
    c.loop-key.invariant ∙ ap (λ keys. ids_of (flat_map name_in keys))
    (all_given _ _ _ _ _ _ (c.into_iter-key-iterator.ensures.into_iter_gives ∙ c.iter-key-items.ensures) c.loop-key.yielded_by c.in-None.is c.next.ensures.steps)
