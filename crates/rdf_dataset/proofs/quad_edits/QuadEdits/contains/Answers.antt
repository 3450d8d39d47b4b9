use Rattle.std.proofs.Common.{◌∙◌, sym, ap, not}
use Rattle.rdf_dataset.proofs.QuadEditLemmas.{has_known_quad, has_new_quad}
use Rattle.rdf_dataset.proofs.quad_edits.QuadEdits.contains.Goals as goal

pub returns-then-beneath : goal.returns-then-beneath
returns-then-beneath c s t d h = ap not c.contains.ensures ∙ has_known_quad s t _ _ d c.args.quad.now (sym c.if-beneath.true ∙ h)

pub returns-else-beneath : goal.returns-else-beneath
returns-else-beneath c s t d h = c.contains-else-beneath.ensures ∙ has_new_quad s t _ _ d c.args.quad.now (sym c.if-beneath.false ∙ h)
