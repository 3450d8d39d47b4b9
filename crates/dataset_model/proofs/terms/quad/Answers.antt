use Rattle.dataset_model.proofs.SomeLemmas.{of_some}
use Rattle.dataset_model.proofs.terms.quad.Goals as goal

pub returns : goal.returns
returns c = of_some _ _ _ _ c.new.ensures (λ next four. record {
  graph = c.in_ok-graph.ensures next four;
  subject = c.in_ok-subject.ensures next four;
  predicate = c.in_ok-predicate.ensures next four;
  object = c.in_ok-object.ensures next four;
})
