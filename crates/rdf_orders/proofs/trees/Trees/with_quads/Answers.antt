use Rattle.std.proofs.lemmas.Result.{IfOk-weaker}
use Rattle.rdf_orders.proofs.TreeLemmas.{mirrors_of_both}
use Rattle.rdf_orders.proofs.trees.Trees.with_quads.Goals as goal

pub returns : goal.returns
returns c = IfOk-weaker c.of_first.result _ _ (λ trees built. mirrors_of_both c.args.self.now trees _ _ c.in_ok-spo.ensures.0 built) c.of_first.ensures
