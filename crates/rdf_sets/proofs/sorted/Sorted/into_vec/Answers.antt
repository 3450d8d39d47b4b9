use Rattle.rdf_sets.proofs.SortedLemmas.{lists_sorted}
use Rattle.rdf_sets.proofs.sorted.Sorted.into_vec.Goals as goal

pub returns : goal.returns
returns g c = rw (← c.self.view_is) (lists_sorted g.met.T.Item.in_order g.met.T.Item.apart c.self.inside.items.items c.self.invariant)
