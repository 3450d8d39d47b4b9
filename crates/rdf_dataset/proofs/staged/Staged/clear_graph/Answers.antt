use Rattle.std.proofs.Common.{ap}
use Rattle.rdf_dataset.specs.Staging.{Staging}
use Rattle.rdf_dataset.proofs.EmptiedLemmas.{is_emptied, nothing_listed}
use Rattle.rdf_dataset.proofs.staged.Staged.clear_graph.Goals as goal

pub hold-requires : goal.hold-requires
hold-requires g c = nothing_listed c.empty.new.self.now c.args.graph.now (is_emptied c.args.self.now.now c.empty.new.self.now c.args.graph.now (ap (λ (s : Staging). s.now) c.in_ok-empty.ensures.ok))
