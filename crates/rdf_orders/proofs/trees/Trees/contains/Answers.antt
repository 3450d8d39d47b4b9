use Rattle.std.proofs.Common.{◌≡◌, ◌∙◌, ap, sym, length, rules}
use Rattle.std.specs.BTreeSet.{contains}
use Rattle.rdf_orders.specs.declared.order.Order.TheVariants.{Spo}
use Rattle.rdf_orders.specs.Quads.{key_cmp}
use Rattle.rdf_orders.proofs.TreeLemmas.{key_in-quad_at, key_in_tree}
use Rattle.rdf_orders.proofs.trees.Trees.contains.Goals as goal

pub returns : goal.returns
returns c quads m =
    let four : length c.args.quad.now ≡ 4 = search rules in
    c.contains.ensures ∙ ap (contains key_cmp c.args.self.now.spo) (sym (key_in-quad_at Spo c.args.quad.now four)) ∙ key_in_tree _ quads m Spo _
