use Rattle.std.proofs.Common.{arith, refl}
use Rattle.sparql_solve.proofs.CodedRowLemmas.{codes_more}
use Rattle.sparql_solve.proofs.coded.run_end.Goals as goal

pub loop-to-init : goal.loop-to-init
loop-to-init c = record {
  past = omega arith;
  within = omega arith;
  alike = codes_more c.args.rows.now c.args.from c.args.from _ c.index-rows-from.result c.requires (λ k a b. absurd (omega arith)) refl;
}

pub loop-to-preserved : goal.loop-to-preserved
loop-to-preserved c = record {
  past = omega arith;
  within = omega arith;
  alike = codes_more c.args.rows.now c.args.from c.loop-to.to _ c.index-rows-to.result c.loop-to-test.true c.loop-to.invariant.alike c.if-rows-to.true;
}
