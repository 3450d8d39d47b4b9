use Rattle.std.proofs.Common.{◌≡◌, ◌+◌, drop}
use Rattle.std.specs.Prelude.{min, max}
use Rattle.rdf_dataset.specs.State.{last_number}
use Rattle.rdf_session.specs.Request.{blank_limit}
use Rattle.rdf_session.proofs.load.blank_limit.Given as goal

abbrev pub invariant-loop-quad : goal.invariant-loop-quad
invariant-loop-quad l = min (blank_limit l.quads) (last_number + 1) ≡ max l.limit (min (blank_limit (drop l.quad-index l.quads)) (last_number + 1))
