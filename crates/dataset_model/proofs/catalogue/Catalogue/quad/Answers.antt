use Rattle.dataset_model.proofs.SomeLemmas.{of_some}
use Rattle.dataset_model.proofs.catalogue.Catalogue.quad.Goals as goal

pub returns : goal.returns
returns c = of_some _ _ _ _ c.new.ensures (record {
  graph = c.in_ok-graph.ensures;
  subject = tt;
  predicate = tt;
  object = c.in_ok-object.ensures;
})
