use Rattle.std.proofs.Common.{◌-◌, length, arith}
use Rattle.sparql_algebra.specs.Algebra.{element}
use Rattle.sparql_solve.specs.Under.{is_apart}
use Rattle.sparql_solve.proofs.ApartLemmas.{apart_more, apart_none}
use Rattle.sparql_solve.proofs.shapes.before_apart.Goals as goal

pub loop-first-init : goal.loop-first-init
loop-first-init c = record {
  within = omega arith;
  apart = apart_none (λ m. is_apart (element m)) c.args.members.now (length c.args.members.now) (omega arith);
}

pub loop-first-preserved : goal.loop-first-preserved
loop-first-preserved c = record {
  within = omega (arith, c.loop-first.invariant.within);
  apart =
      apart_more (λ m. is_apart (element m)) c.args.members.now (c.loop-first.first - 1) c.loop-first.first c.index-members-first.result (omega arith)
      (omega (arith, c.loop-first.invariant.within)) c.index-members-first.is (c.is_apart.ensures c.if-not-is_apart.false) c.loop-first.invariant.apart;
}
