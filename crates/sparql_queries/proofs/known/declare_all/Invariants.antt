use Rattle.std.proofs.Common.{◌≡◌, drop}
use Rattle.sparql_queries.specs.Known as spec
use Rattle.sparql_queries.proofs.known.declare_all.Given as goal

abbrev pub invariant-loop-declaration : goal.invariant-loop-declaration
invariant-loop-declaration l = spec.declared_by l.initial.declared.keys l.declarations ≡ spec.declared_by l.declared.keys (drop l.declaration-index l.declarations)
