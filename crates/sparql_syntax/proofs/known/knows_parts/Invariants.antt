use Rattle.std.proofs.Common.{◌≡◌, [], drop}
use Rattle.sparql_syntax.specs.Known as spec
use Rattle.sparql_syntax.proofs.known.knows_parts.Given as goal

abbrev pub invariant-loop-part : goal.invariant-loop-part
invariant-loop-part l = spec.declares_first [] l.parts ≡ spec.declares_first l.declared.keys (drop l.part-index l.parts)
