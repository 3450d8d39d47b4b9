use Rattle.std.proofs.Common.{◌≡◌, ◌≤◌, ◌+◌, ◌*◌, length}
use Rattle.rdf_grammar.specs.Steps.{◌>>◌}
use Rattle.rdf_grammar.specs.Readings.{one, repeat}
use Rattle.rdf_grammar.proofs.CallerLemmas.{Going, Grown}
use Rattle.sparql_terminals.specs.declared.terminal.Terminal.TheVariants as terminal
use Rattle.sparql_terminals.specs.Lexemes.{sees, the}
use Rattle.sparql_expressions.specs.ExpressionReading as spec
use Rattle.sparql_expressions.proofs.expression.+expression.Given as goal

-- the functions in the order in which they call one another, for as many parentheses as may be open
abbrev pub decreases-expression : goal.decreases-expression
decreases-expression l = 13 * l.depth

abbrev pub decreases-bracketted : goal.decreases-bracketted
decreases-bracketted l = 13 * l.depth + 1

abbrev pub decreases-second_term : goal.decreases-second_term
decreases-second_term l = 13 * l.depth + 1

abbrev pub decreases-same_term : goal.decreases-same_term
decreases-same_term l = 13 * l.depth + 2

abbrev pub decreases-built_in_call : goal.decreases-built_in_call
decreases-built_in_call l = 13 * l.depth + 3

abbrev pub decreases-primary : goal.decreases-primary
decreases-primary l = 13 * l.depth + 4

abbrev pub decreases-unary : goal.decreases-unary
decreases-unary l = 13 * l.depth + 5

abbrev pub decreases-product : goal.decreases-product
decreases-product l = 13 * l.depth + 6

abbrev pub decreases-multiplicative : goal.decreases-multiplicative
decreases-multiplicative l = 13 * l.depth + 7

abbrev pub decreases-addend : goal.decreases-addend
decreases-addend l = 13 * l.depth + 8

abbrev pub decreases-additive : goal.decreases-additive
decreases-additive l = 13 * l.depth + 9

abbrev pub decreases-relational : goal.decreases-relational
decreases-relational l = 13 * l.depth + 10

abbrev pub decreases-conditional_and : goal.decreases-conditional_and
decreases-conditional_and l = 13 * l.depth + 11

abbrev pub decreases-conditional_or : goal.decreases-conditional_or
decreases-conditional_or l = 13 * l.depth + 12

abbrev pub invariant-conditional_or-loop-operands : goal.invariant-conditional_or-loop-operands
invariant-conditional_or-loop-operands l = let p = one (the terminal.Or >> spec.conditional_and (spec.expression l.depth)) in record {
  grown : Grown (sees terminal.Or) p (repeat (sees terminal.Or) p l.initial.parser) l.initial.operands l.operands l.parser;
  shorter : length l.parser ≤ length l.initial.parser;
}

abbrev pub decreases-conditional_or-loop-operands : goal.decreases-conditional_or-loop-operands
decreases-conditional_or-loop-operands l = length l.parser

abbrev pub invariant-conditional_and-loop-operands : goal.invariant-conditional_and-loop-operands
invariant-conditional_and-loop-operands l = let p = one (the terminal.And >> spec.relational (spec.expression l.depth)) in record {
  grown : Grown (sees terminal.And) p (repeat (sees terminal.And) p l.initial.parser) l.initial.operands l.operands l.parser;
  shorter : length l.parser ≤ length l.initial.parser;
}

abbrev pub decreases-conditional_and-loop-operands : goal.decreases-conditional_and-loop-operands
decreases-conditional_and-loop-operands l = length l.parser

abbrev pub invariant-product-loop-factors : goal.invariant-product-loop-factors
invariant-product-loop-factors l = let p = one (the terminal.Star >> spec.unary (spec.expression l.depth)) in record {
  grown : Grown (sees terminal.Star) p (repeat (sees terminal.Star) p l.initial.parser) l.initial.factors l.factors l.parser;
  shorter : length l.parser ≤ length l.initial.parser;
}

abbrev pub decreases-product-loop-factors : goal.decreases-product-loop-factors
decreases-product-loop-factors l = length l.parser

abbrev pub invariant-additive-loop-others : goal.invariant-additive-loop-others
invariant-additive-loop-others l = let p = one (spec.addend (spec.expression l.depth)) in record {
  going : Going spec.sees_addend p (repeat spec.sees_addend p l.initial.parser) l.others l.parser;
  shorter : length l.parser ≤ length l.initial.parser;
  kept : l.first ≡ l.initial.first;
}

abbrev pub decreases-additive-loop-others : goal.decreases-additive-loop-others
decreases-additive-loop-others l = length l.parser
