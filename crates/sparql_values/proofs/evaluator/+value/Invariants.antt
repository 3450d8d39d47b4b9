use Rattle.std.proofs.Common.{◌≡◌, drop, map, Some, true, false}
use Rattle.std.proofs.Math.IntN.{pos}
use Rattle.std.specs.List.{fold}
use Rattle.sparql_values.specs.Scopes.{number_at, signed_values, truth_in}
use Rattle.sparql_values.specs.Values.{added, both, either, on_both, times}
use Rattle.sparql_values.proofs.evaluator.+value.Given as goal

abbrev pub invariant-any-loop-operand : goal.invariant-any-loop-operand
invariant-any-loop-operand l =
    fold either l.so_far (map (truth_in l.scope) (drop l.operand-index l.operands)) ≡ fold either (Some false) (map (truth_in l.scope) l.operands)

abbrev pub invariant-all-loop-operand : goal.invariant-all-loop-operand
invariant-all-loop-operand l =
    fold both l.so_far (map (truth_in l.scope) (drop l.operand-index l.operands)) ≡ fold both (Some true) (map (truth_in l.scope) l.operands)

abbrev pub invariant-product-loop-factor : goal.invariant-product-loop-factor
invariant-product-loop-factor l =
    fold (on_both times) l.so_far (map (number_at l.scope) (drop l.factor-index l.factors))
    ≡ fold (on_both times) (Some (pos 1)) (map (number_at l.scope) l.factors)

abbrev pub invariant-sum-loop-sign : goal.invariant-sum-loop-sign
invariant-sum-loop-sign l =
    fold added l.so_far (signed_values l.scope (drop l.sign-index l.others)) ≡ fold added l.fn.first (signed_values l.scope l.others)
