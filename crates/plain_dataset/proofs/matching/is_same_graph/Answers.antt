use Rattle.std.proofs.Common.{◌∙◌, ap}
use Rattle.std.specs.Ordering.{is_eq}
use Rattle.rdf_terms.specs.OrderLaws.{graph_order}
use Rattle.plain_dataset.proofs.matching.is_same_graph.Goals as goal

pub returns : goal.returns
returns c = c.is_eq.ensures ∙ ap is_eq (c.cmp.ensures ∙ graph_order c.args.graph.now c.args.other.now)
