use Rattle.std.proofs.Common.{arith}
use Rattle.std.proofs.lemmas.Grind.{common_steps}
use Rattle.rdf_store.proofs.look_ups.append_all.Goals as goal

pub returns-in_err-or_truncate-clause-err : goal.returns-in_err-or_truncate-clause-err
returns-in_err-or_truncate-clause-err c = grind (arith, common_steps)

pub loop-key-preserved : goal.loop-key-preserved
loop-key-preserved c = grind (arith, common_steps)
