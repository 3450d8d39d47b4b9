use Rattle.std.proofs.Common.{◌∙◌, ap, subst}
use Rattle.std.specs.Prelude.{IsSorted}
use Rattle.std.specs.Ordering.{eq_by_cmp}
use Rattle.std.proofs.lemmas.List.Filters.{dedup_is}
use Rattle.std.proofs.lemmas.List.Kept.{IsStrictlySortedBy-dedup}
use Rattle.rdf_sets.proofs.OnceLemmas.{same_items}
use Rattle.rdf_sets.proofs.sorted.Sorted.from_list.Goals as goal

pub invariant_of-result : goal.invariant_of-result
invariant_of-result g c =
    rw (dedup_is _ _ _ c.dedup.ensures.filtered) (IsStrictlySortedBy-dedup g.met.T.Item.in_order
    (λ x y. g.met.T.Ord.matches_eq x y ∙ ap (λ cmp. eq_by_cmp cmp x y) g.met.T.Item.ordered) _
    (subst (λ cmp. IsSorted cmp c.sort_unstable.new.self.items) g.met.T.Item.ordered c.sort_unstable.ensures.sorted))

pub returns : goal.returns
returns g c =
    same_items g.met.T.Item.in_order g.met.T.Item.apart _
    (λ x y. g.met.T.Ord.matches_eq x y ∙ ap (λ cmp. eq_by_cmp cmp x y) g.met.T.Item.ordered)
    c.args.items.items c.sort_unstable.new.self.items _ c.sort_unstable.ensures.permutation (dedup_is _ _ _ c.dedup.ensures.filtered)
