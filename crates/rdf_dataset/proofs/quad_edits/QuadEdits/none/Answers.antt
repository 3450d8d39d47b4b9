use Rattle.rdf_dataset.proofs.QuadEditLemmas.{no_quad_delta}
use Rattle.rdf_dataset.proofs.quad_edits.QuadEdits.none.Goals as goal

pub returns : goal.returns
returns c s = rw (c.new.ensures, c.new-2.ensures) (no_quad_delta s)
