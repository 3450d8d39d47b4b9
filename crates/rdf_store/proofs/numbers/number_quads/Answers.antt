use Rattle.std.proofs.Common.{arith, ap, subst, sym, [], length}
use Rattle.std.proofs.lemmas.Grind.{common_steps}
use Rattle.rdf_store.specs.Inside.Numbers.{AreKeys}
use Rattle.rdf_store.proofs.NumberLemmas.{grown_itself, grown_then}
use Rattle.rdf_store.proofs.GrowthLemmas.{keys_kept, next_key}
use Rattle.rdf_store.proofs.numbers.number_quads.Goals as goal

pub loop-quad-init : goal.loop-quad-init
loop-quad-init c = record {
  numbers = subst (λ keys. AreKeys c.args.table.now keys []) (sym c.new-keys.ensures.items) tt;
  grown = grown_itself _;
}

pub append_key-requires : goal.append_key-requires
append_key-requires c = keys_kept _ _ _ c.loop-quad.invariant.numbers

pub returns-in_err-append_key-clause-grown : goal.returns-in_err-append_key-clause-grown
returns-in_err-append_key-clause-grown c = grown_then _ _ _ c.loop-quad.invariant.grown c.append_key.ensures.grown

pub returns-in_err-append_key-clause-free : goal.returns-in_err-append_key-clause-free
returns-in_err-append_key-clause-free c = λ none. absurd (omega (arith, c.loop-quad-test.true, ap length none))

pub loop-quad-preserved : goal.loop-quad-preserved
loop-quad-preserved c = record {
  numbers = next_key _ _ c.loop-quad.keys.items _ c.args.quads.now c.loop-quad.quad-index _ c.loop-quad.invariant.numbers c.in_ok-append_key.ensures.grown c.in_ok-append_key.ensures.ok c.loop-quad-test.true c.quad-item.is;
  grown = grown_then _ _ _ c.loop-quad.invariant.grown c.in_ok-append_key.ensures.grown;
}

pub returns-clause-numbers : goal.returns-clause-numbers
returns-clause-numbers c = grind (arith, common_steps)
