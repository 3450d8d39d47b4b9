use Rattle.std.proofs.Common.{◌∙◌, ap, sym, length}
use Rattle.std.proofs.lemmas.List.{nil_from_length}
use borrow.Author.Tests.{eqb-true}
use Rattle.rdf_sets.proofs.CommonLemmas.{difference_nothing}
use Rattle.std.proofs.lemmas.List.Kept.{IsStrictlySortedBy-filter}
use Rattle.std.specs.FinSet as set
use Rattle.rdf_sets.proofs.SortedLemmas.{filter_difference}
use Rattle.rdf_sets.proofs.sorted.Sorted.subtract.Goals as goal

pub invariant_of-self : goal.invariant_of-self
invariant_of-self g c = rw (c.truncate.ensures.items, c.keep_others-kept.ensures) (IsStrictlySortedBy-filter g.T.Item.order _ _ c.self.invariant)

pub returns : goal.returns
returns g c =
    ap set.from_list (c.truncate.ensures.items ∙ c.keep_others-kept.ensures)
    ∙ filter_difference g.met.T.Item.in_order g.met.T.Item.apart (set.from_list c.args.gone.now) c.self.inside.items.items
    ∙ (λ i. set.difference (set.from_list (c.self.view_is i)) (set.from_list c.args.gone.now))

pub returns-then-is_empty : goal.returns-then-is_empty
returns-then-is_empty g c =
    let nil = nil_from_length c.args.gone.now (eqb-true (length c.args.gone.now) 0 (sym c.if-is_empty.ensures)) in
    difference_nothing g.met.T.Item.in_order g.met.T.Item.apart (set.from_list c.args.self.now) (set.from_list c.args.gone.now) (ap (λ xs. set.from_list {R = g.T.Item.order} xs) nil)
