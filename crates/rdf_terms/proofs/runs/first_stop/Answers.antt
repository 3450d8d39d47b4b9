use Rattle.std.proofs.Common.{◌-◌, length, arith}
use Rattle.rdf_terms.proofs.StopLemmas.{none_in_last, none_in_part, some_in_part}
use Rattle.rdf_terms.proofs.runs.first_stop.Goals as goal

pub returns-in-Some-clause-first : goal.returns-in-Some-clause-first
returns-in-Some-clause-first g c = some_in_part _ _ 16 _ _ c.loop-front.invariant (omega arith) c.in-Some.ensures.first

pub loop-front-preserved : goal.loop-front-preserved
loop-front-preserved g c = none_in_part _ _ 16 _ c.loop-front.invariant (omega arith) c.in_default.ensures.first

pub returns-in-Some-first_stop_at-clause-first : goal.returns-in-Some-first_stop_at-clause-first
returns-in-Some-first_stop_at-clause-first g c = some_in_part _ _ 16 _ _ (omega arith) (omega arith) c.in-Some-first_stop_at.ensures.first

pub returns-in-None-clause-first : goal.returns-in-None-clause-first
returns-in-None-clause-first g c = none_in_last _ (length c.args.text.now - 16) 16 _ (omega arith) (omega arith) c.in-None.ensures.first
