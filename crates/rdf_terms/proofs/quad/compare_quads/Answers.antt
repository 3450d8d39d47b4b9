use Rattle.std.proofs.Common.{◌∙◌}
use Rattle.rdf_terms.specs.OrderLaws.{quad_order}
use Rattle.rdf_terms.proofs.quad.compare_quads.Goals as goal

pub returns : goal.returns
returns c = c.cmp.ensures ∙ quad_order c.args.a.now c.args.b.now
