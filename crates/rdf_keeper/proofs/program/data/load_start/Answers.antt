use Rattle.std.proofs.Common.{refl, subst}
use Rattle.rdf_session.specs.Request.{Load}
use Rattle.rdf_session.specs.Session.{Do, Transition, reply_of}
use Rattle.rdf_keeper.proofs.program.data.load_start.Goals as goal

pub returns-in-Ok : goal.returns-in-Ok
returns-in-Ok c = (
  c.in-Ok.field-0,
  c.load_text.new.self,
  _,
  subst (λ r. Transition c.args.keeper.now (Do (Load c.args.format c.args.text.items)) (reply_of r) c.load_text.new.self) c.in-Ok.is c.load_text.ensures,
  c.commit.ensures,
  refl,
)
