use Rattle.std.proofs.Common.{◌∙◌, ◌++◌, ap, map, subst}
use Rattle.std.specs.Prelude.{IsPermutation, IsSorted}
use Rattle.rdf_terms.specs.OrderLaws.{quad_order_is}
use Rattle.rdf_store.specs.Inside.Numbers.{parts_of}
use Rattle.rdf_store.proofs.ranks.quads_by_term.Goals as goal

pub returns-clause-same : goal.returns-clause-same
returns-clause-same c =
    subst (λ l. IsPermutation l c.sort_unstable.new.self.items)
    (c.in_ok-append_tree.ensures.ok ∙ ap (λ l. l ++ map (parts_of c.args.table.now) c.args.keys.now.keys) c.new-quads.ensures.items) c.sort_unstable.ensures.permutation

pub returns-clause-sorted : goal.returns-clause-sorted
returns-clause-sorted c = subst (λ cmp. IsSorted cmp c.sort_unstable.new.self.items) quad_order_is c.sort_unstable.ensures.sorted
