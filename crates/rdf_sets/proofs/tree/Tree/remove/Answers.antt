use Rattle.std.proofs.Common.{◌∙◌, ap}
use Rattle.std.specs.FinSet as set
use Rattle.rdf_sets.proofs.TreeLemmas.{tree_has, tree_remove}
use Rattle.rdf_sets.proofs.tree.Tree.remove.Goals as goal

pub returns-clause-items : goal.returns-clause-items
returns-clause-items g c =
    tree_remove g.met.T.Item.ordered g.met.T.Item.in_order g.met.T.Item.apart c.self.inside.items.keys c.remove.new.self.keys c.args.item.now c.remove.ensures.updates.0
    ∙ ap (λ keys. set.remove (set.from_list keys) c.args.item.now) c.self.view_is

pub returns-clause-was : goal.returns-clause-was
returns-clause-was g c =
    c.remove.ensures.test ∙ tree_has g.met.T.Item.ordered g.met.T.Item.in_order g.met.T.Item.apart c.self.inside.items.keys c.args.item.now
    ∙ ap (λ keys. set.contains (set.from_list {R = g.T.Item.order} keys) c.args.item.now) c.self.view_is
