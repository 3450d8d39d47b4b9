use Rattle.std.proofs.Common.{subst}
use Rattle.std.specs.Prelude.{Ok, Err}
use Rattle.rdf_session.specs.Request.{Update}
use Rattle.rdf_session.specs.Session.{Do, Transition, reply_of}
use Rattle.rdf_streams.proofs.ConversionLemmas.Converts.{Appends-none}
use Rattle.rdf_keeper.proofs.program.once.write_update.Goals as goal

pub returns-in-Ok-clause-applies : goal.returns-in-Ok-clause-applies
returns-in-Ok-clause-applies g c = (
  Ok c.in-Ok.field-0,
  c.update.new.self,
  subst (λ r. Transition c.args.keeper.now (Do (Update c.args.text.now)) (reply_of r) c.update.new.self) c.in-Ok.is c.update.ensures,
  c.write_topic.ensures.shows c.in-Ok.field-0,
)

pub returns-in-Err-clause-applies : goal.returns-in-Err-clause-applies
returns-in-Err-clause-applies g c = (
  Err c.in-Err.fault,
  c.update.new.self,
  subst (λ r. Transition c.args.keeper.now (Do (Update c.args.text.now)) (reply_of r) c.update.new.self) c.in-Err.is c.update.ensures,
  (c.refusal.ensures.same, Appends-none _),
)
