use Rattle.rdf_session.proofs.LoadLemmas.{limit_pushed}
use Rattle.rdf_session.proofs.start.StartQuads.push.Goals as goal

pub invariant_of-self-2 : goal.invariant_of-self-2
invariant_of-self-2 c = limit_pushed _ _ c.args.quad _ _ _ _ c.self.invariant c.quad_limit-limit.ensures c.max-self-inside.ensures c.in_ok-push.ensures.ok
