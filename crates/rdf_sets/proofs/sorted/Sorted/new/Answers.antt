use Rattle.rdf_sets.proofs.SortedLemmas.{rising_nil}
use Rattle.rdf_sets.proofs.sorted.Sorted.new.Goals as goal

pub invariant_of-result : goal.invariant_of-result
invariant_of-result g c = rw c.new.ensures.items (rising_nil g.T.Item.order)
