use Rattle.std.proofs.Common.{arith, ap, subst, sym, [], length}
use Rattle.std.proofs.lemmas.Grind.{common_steps}
use Rattle.rdf_store.specs.Inside.Numbers.{AreIds}
use Rattle.rdf_store.proofs.NumberLemmas.{grown_itself, grown_then}
use Rattle.rdf_store.proofs.GrowthLemmas.{next_id}
use Rattle.rdf_store.proofs.numbers.number_terms.Goals as goal

pub loop-term-init : goal.loop-term-init
loop-term-init c = record {
  numbers = subst (λ numbers. AreIds c.args.table.now numbers []) (sym c.new-numbers.ensures.items) tt;
  grown = grown_itself _;
}

pub returns-in_err-number-clause-grown : goal.returns-in_err-number-clause-grown
returns-in_err-number-clause-grown c = grown_then _ _ _ c.loop-term.invariant.grown c.in_err-number.ensures.grown

pub returns-in_err-number-clause-free : goal.returns-in_err-number-clause-free
returns-in_err-number-clause-free c = λ none. absurd (omega (arith, c.loop-term-test.true, ap length none))

pub returns-in_err-push-clause-grown : goal.returns-in_err-push-clause-grown
returns-in_err-push-clause-grown c = grown_then _ _ _ c.loop-term.invariant.grown c.in_ok-number.ensures.grown

pub returns-in_err-push-clause-free : goal.returns-in_err-push-clause-free
returns-in_err-push-clause-free c = λ none. absurd (omega (arith, c.loop-term-test.true, ap length none))

pub loop-term-preserved : goal.loop-term-preserved
loop-term-preserved c = record {
  numbers = next_id _ _ c.loop-term.numbers.items _ c.args.terms.now c.loop-term.term-index _ _ c.loop-term.invariant.numbers c.in_ok-number.ensures.grown c.in_ok-number.ensures.number c.in_ok-push.ensures.items c.loop-term-test.true c.term-item.is;
  grown = grown_then _ _ _ c.loop-term.invariant.grown c.in_ok-number.ensures.grown;
}

pub returns-clause-numbers : goal.returns-clause-numbers
returns-clause-numbers c = grind (arith, common_steps)
