use Rattle.std.proofs.Common.{arith}
use Rattle.std.proofs.lemmas.Grind.{common_steps}
use Rattle.rdf_sets.proofs.sorted.append_copies.Goals as goal

pub returns-in_err-or_truncate-clause-err : goal.returns-in_err-or_truncate-clause-err
returns-in_err-or_truncate-clause-err g c = grind (arith, common_steps)

pub loop-item-preserved : goal.loop-item-preserved
loop-item-preserved g c = grind (arith, common_steps)
