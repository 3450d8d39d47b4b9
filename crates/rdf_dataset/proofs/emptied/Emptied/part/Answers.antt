use Rattle.std.proofs.Common.{Some}
use Rattle.rdf_dataset.proofs.EmptiedLemmas.{found_apart, found_default, found_named}
use Rattle.rdf_dataset.proofs.emptied.Emptied.part.Goals as goal

pub returns-in-Default : goal.returns-in-Default
returns-in-Default c = found_default c.args.graph.now c.args.self.now c.as_ref.result c.in-Default.is c.as_ref.ensures.value

pub returns-in-Some : goal.returns-in-Some
returns-in-Some c = found_named c.args.graph.now c.in-Named.name c.args.self.now (Some c.in-Some.part) c.in-Named.is c.in-Some.ensures.value

pub returns-in-None : goal.returns-in-None
returns-in-None c = found_apart c.args.graph.now c.in-Named.name c.args.self.now c.graphs_with.result c.in-Named.is c.graphs_with.ensures
