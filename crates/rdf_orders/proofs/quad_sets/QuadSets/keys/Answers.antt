use Rattle.std.proofs.Common.{sym, subst}
use Rattle.std.specs.List.Sorted.{IsStrictlySortedBy}
use Rattle.rdf_orders.specs.Contents.{ListsKeys}
use Rattle.rdf_orders.specs.Quads.{key_cmp}
use Rattle.rdf_orders.proofs.TreeLemmas.{keys_listed}
use Rattle.rdf_orders.proofs.quad_sets.QuadSets.keys.Goals as goal

pub returns : goal.returns
returns c =
    let is = c.rising.ensures.is in
    let rises : IsStrictlySortedBy key_cmp c.self.inside.trees.spo.keys = subst (λ s. IsStrictlySortedBy key_cmp s.keys) is c.rising.ensures.rises in
    subst (λ s. ListsKeys c.args.self.now.quads s.keys) (sym is)
    (subst (λ v. ListsKeys v.quads c.self.inside.trees.spo.keys) c.self.view_is (keys_listed _ _ c.self.invariant rises))
