use Rattle.std.proofs.Common.{◌∙◌, ap}
use Rattle.std.specs.FinSet as set
use Rattle.rdf_sets.proofs.TreeLemmas.{tree_has}
use Rattle.rdf_sets.proofs.tree.Tree.contains.Goals as goal

pub returns : goal.returns
returns g c =
    c.contains.ensures ∙ tree_has g.met.T.Item.ordered g.met.T.Item.in_order g.met.T.Item.apart c.self.inside.items.keys c.args.item.now
    ∙ ap (λ keys. set.contains (set.from_list {R = g.T.Item.order} keys) c.args.item.now) c.self.view_is
