use Rattle.std.proofs.Common.{◌≡◌, drop}
use Rattle.std.specs.List.{flat_map}
use Rattle.sparql_trees.specs.Visible as spec
use Rattle.sparql_trees.proofs.visible.add_triples.Given as goal

abbrev pub invariant-loop-triple : goal.invariant-loop-triple
invariant-loop-triple l =
    spec.with_names l.initial.names.keys (flat_map spec.triple_names l.triples)
    ≡ spec.with_names l.names.keys (flat_map spec.triple_names (drop l.triple-index l.triples))
