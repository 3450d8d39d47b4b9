use Rattle.std.proofs.Common.{subst}
use Rattle.std.specs.Prelude.{IsSorted}
use Rattle.rdf_sets.proofs.ListsOnceLemmas.{listed_in_order}
use Rattle.rdf_sets.proofs.sorted.in_order.Goals as goal

pub returns : goal.returns
returns g c members l =
    listed_in_order g.met.T.Item.in_order g.met.T.Item.apart members c.args.items.items c.sort_unstable.new.self.items l c.sort_unstable.ensures.permutation
    (subst (λ cmp. IsSorted cmp c.sort_unstable.new.self.items) g.met.T.Item.ordered c.sort_unstable.ensures.sorted)
