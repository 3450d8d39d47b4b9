use Rattle.rdf_sets.proofs.SortedLemmas.{lists_sorted}
use Rattle.rdf_sets.proofs.sorted.Sorted.members.Goals as goal

pub returns : goal.returns
returns g c = rw c.as_slice.ensures.items (lists_sorted g.met.T.Item.in_order g.met.T.Item.apart c.args.self.now c.as_slice.ensures.sorted)
