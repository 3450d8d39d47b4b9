use Rattle.std.proofs.Common.{◌∙◌}
use Rattle.sparql_trees.specs.Visible as spec
use Rattle.sparql_trees.proofs.VisibleLemmas.{next_names}
use Rattle.sparql_trees.proofs.visible.add_triples.Goals as goal

pub loop-triple-preserved : goal.loop-triple-preserved
loop-triple-preserved c = c.loop-triple.invariant ∙ next_names spec.triple_names c.args.triples.now c.loop-triple.triple-index c.triple-item.result _ _ c.loop-triple-test.true c.triple-item.is c.in_ok-add_triple.ensures
