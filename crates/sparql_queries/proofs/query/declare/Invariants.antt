use Rattle.std.proofs.Common.{◌≡◌, drop}
use Rattle.rdf_grammar.specs.Steps.{each}
use Rattle.sparql_drafts.specs.Meaning.{declaration}
use Rattle.sparql_queries.proofs.query.declare.Given as goal

abbrev pub invariant-loop-declaration : goal.invariant-loop-declaration
invariant-loop-declaration l = each declaration l.declarations l.initial.scope.prologue ≡ each declaration (drop l.declaration-index l.declarations) l.scope.prologue
