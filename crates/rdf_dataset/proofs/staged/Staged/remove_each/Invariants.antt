use Rattle.std.proofs.Common.{◌≡◌, drop}
use Rattle.rdf_dataset.specs.Inside.Emptied.{less}
use Rattle.rdf_dataset.proofs.staged.Staged.remove_each.Given as goal

abbrev pub invariant-loop-quad : goal.invariant-loop-quad
invariant-loop-quad g l = record { beneath : l.self.under ≡ l.fn.self.under; left : less l.self.now (drop l.quad-index l.quads) ≡ less l.fn.self.now l.quads }
