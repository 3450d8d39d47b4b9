use Rattle.std.proofs.Common.{arith, sym, ap, ◌∙◌, refl}
use Rattle.std.proofs.lemmas.Result.{err_from_is_err_and}
use Rattle.rdf_grammar.proofs.CallerLemmas.{going_starts, going_on, one_reads, grown_starts, fails_first, fails_then, deeper, grown_behind, grown_fails_behind}
use Rattle.sparql_terminals.specs.declared.terminal.Terminal.TheVariants as terminal
use Rattle.sparql_terminals.specs.Terminals.{same_terminal}
use Rattle.sparql_expressions.specs.ExpressionReading.{begins_addend, addend, expression, conditional_or, conditional_and, product}
use Rattle.sparql_expressions.proofs.expression.+expression.Goals as goal

-- ---- how deep

pub expression-returns-clause-reads : goal.expression-returns-clause-reads
unfolding expression
expression-returns-clause-reads t c = rw (deeper (λ n. expression n c.args.parser.now) c.args.depth (omega arith)) c.conditional_or.ensures.reads

-- ---- conditional_or

pub conditional_or-loop-operands-init : goal.conditional_or-loop-operands-init
conditional_or-loop-operands-init t c = record { grown = grown_starts _ _ _ _; shorter = omega arith }

pub conditional_or-returns-in_err-conditional_and-2-clause-reads : goal.conditional_or-returns-in_err-conditional_and-2-clause-reads
unfolding conditional_or
conditional_or-returns-in_err-conditional_and-2-clause-reads t c =
    let seen = sym c.loop-operands-test.ensures.found in
    let p = err_from_is_err_and c.from_residual-in_err-conditional_and-2.result c.from_residual-in_err-conditional_and-2.ensures.1 in
    rw (p.1, p.2) (fails_then _ _ _ _ _ c.in_ok-conditional_and.ensures.reads (fails_first _ _ _
    (grown_fails_behind same_terminal _ terminal.Or _ _ _ c.loop-operands.invariant.grown seen seen c.loop-operands-test.ensures.left c.in_err-conditional_and-2.ensures.reads)))

pub conditional_or-loop-operands-preserved : goal.conditional_or-loop-operands-preserved
conditional_or-loop-operands-preserved t c =
    let seen = sym c.loop-operands-test.ensures.found in
    record {
      grown = grown_behind same_terminal _ terminal.Or _ _ _ _ _ c.loop-operands.invariant.grown seen seen c.loop-operands-test.ensures.left c.in_ok-conditional_and-2.ensures.reads (omega (arith, c.in_ok-conditional_and-2.ensures.shorter)) c.in_ok-push-2.ensures.ok;
      shorter = omega (arith, c.in_ok-conditional_and-2.ensures.shorter, c.loop-operands-test.ensures.shorter);
    }

-- ---- conditional_and

pub conditional_and-loop-operands-init : goal.conditional_and-loop-operands-init
conditional_and-loop-operands-init t c = record { grown = grown_starts _ _ _ _; shorter = omega arith }

pub conditional_and-returns-in_err-relational-2-clause-reads : goal.conditional_and-returns-in_err-relational-2-clause-reads
unfolding conditional_and
conditional_and-returns-in_err-relational-2-clause-reads t c =
    let seen = sym c.loop-operands-test.ensures.found in
    let p = err_from_is_err_and c.from_residual-in_err-relational-2.result c.from_residual-in_err-relational-2.ensures.1 in
    rw (p.1, p.2) (fails_then _ _ _ _ _ c.in_ok-relational.ensures.reads (fails_first _ _ _
    (grown_fails_behind same_terminal _ terminal.And _ _ _ c.loop-operands.invariant.grown seen seen c.loop-operands-test.ensures.left c.in_err-relational-2.ensures.reads)))

pub conditional_and-loop-operands-preserved : goal.conditional_and-loop-operands-preserved
conditional_and-loop-operands-preserved t c =
    let seen = sym c.loop-operands-test.ensures.found in
    record {
      grown = grown_behind same_terminal _ terminal.And _ _ _ _ _ c.loop-operands.invariant.grown seen seen c.loop-operands-test.ensures.left c.in_ok-relational-2.ensures.reads (omega (arith, c.in_ok-relational-2.ensures.shorter)) c.in_ok-push-2.ensures.ok;
      shorter = omega (arith, c.in_ok-relational-2.ensures.shorter, c.loop-operands-test.ensures.shorter);
    }

-- ---- product

pub product-loop-factors-init : goal.product-loop-factors-init
product-loop-factors-init t c = record { grown = grown_starts _ _ _ _; shorter = omega arith }

pub product-returns-in_err-unary-clause-reads : goal.product-returns-in_err-unary-clause-reads
unfolding product
product-returns-in_err-unary-clause-reads t c =
    let seen = sym c.loop-factors-test.ensures.found in
    let p = err_from_is_err_and c.from_residual-in_err-unary.result c.from_residual-in_err-unary.ensures.1 in
    rw (p.1, p.2) (fails_first _ _ _
    (grown_fails_behind same_terminal _ terminal.Star _ _ _ c.loop-factors.invariant.grown seen seen c.loop-factors-test.ensures.left c.in_err-unary.ensures.reads))

pub product-loop-factors-preserved : goal.product-loop-factors-preserved
product-loop-factors-preserved t c =
    let seen = sym c.loop-factors-test.ensures.found in
    record {
      grown = grown_behind same_terminal _ terminal.Star _ _ _ _ _ c.loop-factors.invariant.grown seen seen c.loop-factors-test.ensures.left c.in_ok-unary.ensures.reads (omega (arith, c.in_ok-unary.ensures.shorter)) c.in_ok-push-2.ensures.ok;
      shorter = omega (arith, c.in_ok-unary.ensures.shorter, c.loop-factors-test.ensures.shorter);
    }

-- ---- additive

pub additive-loop-others-init : goal.additive-loop-others-init
additive-loop-others-init t c = rw c.new-others.ensures record { going = going_starts _ _ _; shorter = omega arith; kept = refl }

pub additive-loop-others-preserved : goal.additive-loop-others-preserved
additive-loop-others-preserved t c =
    let seen = ap begins_addend (sym c.peek.ensures) ∙ sym c.loop-others-test.ensures in
    rw c.in_ok-push.ensures.ok record {
      going = going_on _ _ c.loop-others.invariant.going seen (one_reads (addend (expression c.args.depth)) c.loop-others.parser _ _ c.in_ok-addend.ensures.reads) c.in_ok-addend.ensures.shorter;
      shorter = omega (arith, c.in_ok-addend.ensures.shorter);
      kept = c.loop-others.invariant.kept;
    }
