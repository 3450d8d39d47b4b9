use Rattle.std.proofs.Common.{◌≡◌, ◌++◌, take}
use Rattle.std.specs.Prelude.{filter, option_copied}
use Rattle.rdf_dataset.specs.State.{matches}
use Rattle.plain_dataset.proofs.matching.append_matching.Given as goal

abbrev pub invariant-loop-quad : goal.invariant-loop-quad
invariant-loop-quad l =
    record {
      found : l.out.items ≡ l.fn.out.items ++ filter (matches l.graph (option_copied l.subject) (option_copied l.predicate) (option_copied l.object)) (take l.quad-index l.quads);
    }
