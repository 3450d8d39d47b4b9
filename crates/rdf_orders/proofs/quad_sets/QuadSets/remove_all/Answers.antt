use Rattle.std.proofs.Common.{◌∙◌, ap, sym, [], take, get_or}
use Rattle.std.proofs.lemmas.List.{take_more}
use Rattle.rdf_orders.specs.Quads.{quad_of}
use Rattle.rdf_orders.specs.Contents.{without_quad, without_name}
use Rattle.rdf_orders.proofs.ContentsLemmas.{without_none, without_one_quad, without_one_name}
use Rattle.rdf_orders.proofs.quad_sets.QuadSets.remove_all.Goals as goal

pub loop-quad-init : goal.loop-quad-init
loop-quad-init c = sym (without_none c.args.self.now)

pub loop-quad-preserved : goal.loop-quad-preserved
loop-quad-preserved c =
    rw (take_more c.args.quads.now c.loop-quad.quad-index [] c.loop-quad-test.true)
    (c.remove.ensures.quads ∙ ap (λ s. without_quad s (quad_of (get_or c.args.quads.now c.loop-quad.quad-index []))) c.loop-quad.invariant ∙ without_one_quad c.args.self.now (take c.loop-quad.quad-index c.args.quads.now) [] (get_or c.args.quads.now c.loop-quad.quad-index []))

pub loop-name-preserved : goal.loop-name-preserved
loop-name-preserved c =
    rw (take_more c.args.names.now c.loop-name.name-index 0 c.loop-name-test.true)
    (c.drop_name.ensures.names ∙ ap (λ s. without_name s (get_or c.args.names.now c.loop-name.name-index 0)) c.loop-name.invariant ∙ without_one_name c.args.self.now c.args.quads.now (take c.loop-name.name-index c.args.names.now) (get_or c.args.names.now c.loop-name.name-index 0))
