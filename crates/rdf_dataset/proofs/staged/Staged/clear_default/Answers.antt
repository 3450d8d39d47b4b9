use Rattle.std.proofs.Common.{ap}
use Rattle.rdf_terms.specs.declared.quad.GraphName.TheVariants.{Default}
use Rattle.rdf_dataset.specs.Staging.{Staging}
use Rattle.rdf_dataset.proofs.EmptiedLemmas.{is_emptied, nothing_listed}
use Rattle.rdf_dataset.proofs.staged.Staged.clear_default.Goals as goal

pub hold-requires : goal.hold-requires
hold-requires g c = nothing_listed c.empty.new.self.now Default (is_emptied c.args.self.now.now c.empty.new.self.now Default (ap (λ (s : Staging). s.now) c.in_ok-empty.ensures.ok))
