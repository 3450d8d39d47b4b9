use Rattle.rdf_session.proofs.LoadLemmas.{blank_limit-drop, blank_limit-end, limit_step, limit_end}
use Rattle.rdf_session.proofs.load.blank_limit.Goals as goal

pub loop-quad-preserved : goal.loop-quad-preserved
loop-quad-preserved c =
    limit_step _ _ _ _ _ _ _ _ c.loop-quad.invariant (blank_limit-drop _ _ _ c.loop-quad-test.true c.quad-item.is) c.quad_limit.ensures c.max-limit.ensures

pub returns : goal.returns
returns c = limit_end _ _ _ _ c.loop-quad.invariant (blank_limit-end _ _ c.loop-quad-test.false)
