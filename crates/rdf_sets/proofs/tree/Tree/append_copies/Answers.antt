use Rattle.std.proofs.Common.{arith, ◌≡◌, ◌∙◌, ap, subst, rules}
use Rattle.std.proofs.lemmas.Grind.{common_steps}
use Rattle.std.proofs.lemmas.Map.Iter.{iter_end}
use Rattle.std.specs.Map.Iter.{deref}
use Rattle.std.specs.List.Sorted.{IsStrictlySortedBy}
use Rattle.std.specs.Prelude.{map, ◌++◌}
use Rattle.rdf_sets.proofs.TreeLemmas.{tree_rises}
use Rattle.rdf_sets.proofs.tree.Tree.append_copies.Goals as goal

pub returns-clause-ok : goal.returns-clause-ok
returns-clause-ok g c =
    let e : map deref c.loop-item.yielded ≡ c.self.inside.items.keys = search (rules, iter_end) in
    c.loop-item.invariant ∙ ap (λ xs. c.args.out.now.items ++ xs) (e ∙ c.self.view_is)

pub returns-clause-sorted : goal.returns-clause-sorted
returns-clause-sorted g c =
    subst (IsStrictlySortedBy g.T.Item.order) c.self.view_is
    (tree_rises g.met.T.Item.ordered g.met.T.Item.in_order g.met.T.Item.apart c.self.inside.items.keys c.into_iter-item-iterator.ensures.into_iter_gives.4)

pub loop-item-preserved : goal.loop-item-preserved
loop-item-preserved g c = grind (arith, common_steps)

pub returns-in_err-or_truncate-clause-err : goal.returns-in_err-or_truncate-clause-err
returns-in_err-or_truncate-clause-err g c = grind (arith, common_steps)
