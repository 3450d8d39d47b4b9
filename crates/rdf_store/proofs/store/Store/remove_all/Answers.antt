use Rattle.std.proofs.Common.{sym}
use Rattle.rdf_store.proofs.StoreLemmas.{without_none}
use Rattle.rdf_store.proofs.GrowthLemmas.{next_quad_gone, next_name_gone}
use Rattle.rdf_store.proofs.store.Store.remove_all.Goals as goal

pub loop-quad-init : goal.loop-quad-init
loop-quad-init c = sym (without_none c.args.self.now)

pub loop-quad-preserved : goal.loop-quad-preserved
loop-quad-preserved c = next_quad_gone _ _ _ c.args.quads.now c.loop-quad.quad-index _ c.loop-quad.invariant c.remove.ensures.quads c.loop-quad-test.true c.quad-item.is

pub loop-name-preserved : goal.loop-name-preserved
loop-name-preserved c = next_name_gone _ _ _ c.args.quads.now c.args.names.now c.loop-name.name-index _ c.loop-name.invariant c.drop_name.ensures.names c.loop-name-test.true c.name-item.is
