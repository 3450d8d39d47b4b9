use Rattle.std.proofs.Common.{sym}
use Rattle.rdf_dataset.proofs.EmptiedLemmas.{found_in_graphs}
use Rattle.rdf_dataset.proofs.emptied.Emptied.graphs_with.Goals as goal

pub returns-then-has_name : goal.returns-then-has_name
returns-then-has_name c = found_in_graphs c.args.name.now c.args.self.now c.in_ok-graphs.graphs.now c.in_ok-graphs.ensures.value (sym c.if-has_name.ensures)
