use Rattle.rdf_dataset.proofs.EmptiedLemmas.{no_names_apart, no_quads_apart, part_is}
use Rattle.rdf_dataset.proofs.emptied.part_of.Goals as goal

pub insert_all-requires-clause-new_quads : goal.insert_all-requires-clause-new_quads
insert_all-requires-clause-new_quads c = no_quads_apart c.new-part.result _ c.new-part.ensures

pub insert_all-requires-clause-new_names : goal.insert_all-requires-clause-new_names
insert_all-requires-clause-new_names c = no_names_apart c.new-part.result _ c.new-part.ensures

pub returns-in-Ok : goal.returns-in-Ok
returns-in-Ok c = part_is c.new-part.result c.insert_all.new.self c.args.quads.now c.new-part.ensures c.in-Ok.ensures.ok
