use Rattle.std.proofs.Common.{◌≡◌, map, drop, IsTrue}
use Rattle.std.specs.List.{list_all}
use Rattle.sparql_expressions.specs.ProperExpressions as proper
use Rattle.sparql_grammar.specs.Proper.{holds}
use Rattle.sparql_queries.specs.Addends as addends
use Rattle.sparql_queries.specs.Expressions as spec
use Rattle.sparql_queries.proofs.ExpressionLemmas.{all_behind}
use Rattle.sparql_queries.proofs.expression.+expression.Given as goal

abbrev pub invariant-expressions-loop-one : goal.invariant-expressions-loop-one
invariant-expressions-loop-one l =
    let f = spec.expression_in l.initial.scope.prologue in
    record {
      says : spec.all (map f l.written) ≡ all_behind l.made (map f (drop l.one-index l.written));
      prologue : l.scope.prologue ≡ l.initial.scope.prologue;
      proper : IsTrue (list_all holds (map proper.proper_expression (drop l.one-index l.written)));
    }

abbrev pub invariant-addends-loop-one : goal.invariant-addends-loop-one
invariant-addends-loop-one l =
    let f = addends.addend_in l.initial.scope.prologue in
    record {
      says : spec.all (map f l.written) ≡ all_behind l.made (map f (drop l.one-index l.written));
      prologue : l.scope.prologue ≡ l.initial.scope.prologue;
      proper : IsTrue (list_all holds (map addends.proper_addend (drop l.one-index l.written)));
    }
