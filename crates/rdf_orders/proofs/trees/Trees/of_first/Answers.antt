use Rattle.std.proofs.Common.{refl}
use Rattle.rdf_orders.specs.declared.order.Order.TheVariants.{Pos, Osp}
use Rattle.rdf_orders.proofs.WidthLemmas.{built_alone}
use Rattle.rdf_orders.proofs.trees.Trees.of_first.Goals as goal

pub returns : goal.returns
returns c = record { first = refl; pos = built_alone Pos _ _ c.in_ok-pos.ensures; osp = built_alone Osp _ _ c.in_ok-osp.ensures }
