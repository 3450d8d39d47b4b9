use Rattle.std.proofs.Common.{◌∙◌, ap, not}
use Rattle.std.specs.FinSet as set
use Rattle.rdf_sets.proofs.TreeLemmas.{tree_has, tree_insert}
use Rattle.rdf_sets.proofs.tree.Tree.insert.Goals as goal

pub returns-clause-ok : goal.returns-clause-ok
returns-clause-ok g c =
    tree_insert g.met.T.Item.ordered g.met.T.Item.in_order g.met.T.Item.apart c.self.inside.items.keys c.insert.new.self.keys c.args.item c.in_ok-insert.ensures.updates.0
    ∙ ap (λ keys. set.insert (set.from_list keys) c.args.item) c.self.view_is

pub returns-clause-new : goal.returns-clause-new
returns-clause-new g c =
    c.in_ok-insert.ensures.added
    ∙ ap not (tree_has g.met.T.Item.ordered g.met.T.Item.in_order g.met.T.Item.apart c.self.inside.items.keys c.args.item
    ∙ ap (λ keys. set.contains (set.from_list {R = g.T.Item.order} keys) c.args.item) c.self.view_is)
