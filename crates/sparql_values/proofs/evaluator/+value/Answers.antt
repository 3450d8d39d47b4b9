use Rattle.std.proofs.Common.{drop, map}
use Rattle.std.specs.Option.{option_map}
use Rattle.sparql_values.specs.Operands.{term_of}
use Rattle.sparql_values.specs.Scopes.{bindings, truth_in}
use Rattle.sparql_values.proofs.FoldLemmas.{both_ends, either_ends}
use Rattle.sparql_values.proofs.ValueLemmas.{product_said, sum_said}
use Rattle.sparql_values.proofs.evaluator.+value.Goals as goal

pub value-returns-in_ok-first-in-Sum : goal.value-returns-in_ok-first-in-Sum
value-returns-in_ok-first-in-Sum t c =
    sum_said (bindings c.args.scope.now) (option_map term_of) c.in-Sum.first c.in-Sum.others c.args.expression.now _ _ _ c.sum.result c.number_value.result
    c.in-Sum.is c.get-in-Sum.ensures c.in_ok-first-in-Sum.ensures c.as_slice-in-Sum.ensures c.sum.ensures c.number_value.ensures

pub value-returns-in-Product : goal.value-returns-in-Product
value-returns-in-Product t c =
    product_said (bindings c.args.scope.now) (option_map term_of) c.in-Product.factors c.args.expression.now _ c.product.result c.number_value-in-Product.result
    c.in-Product.is c.as_slice-in-Product.ensures c.product.ensures c.number_value-in-Product.ensures

pub any-returns-then-is_true : goal.any-returns-then-is_true
any-returns-then-is_true t c =
    either_ends c.loop-operand.so_far (map (truth_in c.args.scope.now) (drop c.loop-operand.operand-index c.args.operands.now)) _ c.is_true.result c.is_true.ensures
    c.if-is_true.true c.loop-operand.invariant

pub all-returns-then-is_true : goal.all-returns-then-is_true
all-returns-then-is_true t c =
    both_ends c.loop-operand.so_far c.negated.result (map (truth_in c.args.scope.now) (drop c.loop-operand.operand-index c.args.operands.now)) _ c.is_true.result
    c.negated.ensures c.is_true.ensures c.if-is_true.true c.loop-operand.invariant
