use Rattle.std.proofs.Common.{◌∙◌, sym, ap, not}
use Rattle.rdf_sets.proofs.DeltaLemmas.{has_known, has_new}
use Rattle.rdf_sets.proofs.tree_delta.TreeDelta.contains.Goals as goal

pub returns-then-beneath : goal.returns-then-beneath
returns-then-beneath g c s t d h = ap not c.contains.ensures ∙ has_known g.met.T.Item.in_order g.met.T.Item.apart s t _ _ d c.args.item.now (sym c.if-beneath.true ∙ h)

pub returns-else-beneath : goal.returns-else-beneath
returns-else-beneath g c s t d h = c.contains-else-beneath.ensures ∙ has_new g.met.T.Item.in_order g.met.T.Item.apart s t _ _ d c.args.item.now (sym c.if-beneath.false ∙ h)
