use Rattle.std.proofs.Common.{◌≡◌}
use Rattle.std.specs.List.{flat_map}
use Rattle.rdf_orders.specs.Contents.{ids_of}
use Rattle.rdf_store.specs.Inside.Names.{name_in}
use Rattle.rdf_store.proofs.quad_list.graph_names.Given as goal

abbrev pub invariant-loop-key : goal.invariant-loop-key
invariant-loop-key l = ids_of l.names.items ≡ ids_of (flat_map name_in l.yielded)
