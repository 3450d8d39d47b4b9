use Rattle.std.proofs.Common.{◌≡◌, ◌∙◌, sym, subst, rules}
use Rattle.std.proofs.lemmas.Map.Iter.{iter_end}
use Rattle.std.specs.List.Sorted.{IsStrictlySortedBy}
use Rattle.std.specs.Prelude.{map}
use Rattle.rdf_sets.proofs.TreeLemmas.{tree_rises, map_same}
use Rattle.rdf_sets.proofs.tree.Tree.into_sorted.Goals as goal

pub from_rising-requires : goal.from_rising-requires
from_rising-requires g c =
    let e : map (λ x. x) c.loop-item.yielded ≡ c.self.inside.items.keys = search (rules, iter_end) in
    subst (IsStrictlySortedBy g.T.Item.order) (sym (c.loop-item.invariant ∙ sym (map_same c.loop-item.yielded) ∙ e)) (tree_rises g.met.T.Item.ordered g.met.T.Item.in_order g.met.T.Item.apart c.self.inside.items.keys c.len.ensures.ordered)

pub returns : goal.returns
returns g c =
    let e : map (λ x. x) c.loop-item.yielded ≡ c.self.inside.items.keys = search (rules, iter_end) in
    c.from_rising.ensures ∙ c.loop-item.invariant ∙ sym (map_same c.loop-item.yielded) ∙ e ∙ c.self.view_is
