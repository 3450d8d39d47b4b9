use Rattle.std.proofs.Common.{◌≡◌, map, drop}
use Rattle.std.specs.List.{list_all}
use Rattle.sparql_grammar.specs.Proper.{holds}
use Rattle.sparql_queries.specs.Addends as addends
use Rattle.sparql_queries.specs.Known as spec
use Rattle.sparql_queries.proofs.known.+known_expression.Given as goal

abbrev pub invariant-knows_expressions-loop-expression : goal.invariant-knows_expressions-loop-expression
invariant-knows_expressions-loop-expression l =
    let f = spec.known_expression l.declared.keys in
    list_all holds (map f l.expressions) ≡ list_all holds (map f (drop l.expression-index l.expressions))

abbrev pub invariant-knows_addends-loop-addend : goal.invariant-knows_addends-loop-addend
invariant-knows_addends-loop-addend l =
    let f = addends.known_addend l.declared.keys in
    list_all holds (map f l.addends) ≡ list_all holds (map f (drop l.addend-index l.addends))
