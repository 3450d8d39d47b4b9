use Rattle.std.proofs.lemmas.List.Kept.{IsStrictlySortedBy-filter}
use Rattle.rdf_sets.proofs.sorted.Sorted.common.Goals as goal

pub invariant_of-result : goal.invariant_of-result
invariant_of-result g c = rw (c.in_ok-items.ensures, c.as_slice.ensures.items) (IsStrictlySortedBy-filter g.T.Item.order _ _ c.as_slice.ensures.sorted)
