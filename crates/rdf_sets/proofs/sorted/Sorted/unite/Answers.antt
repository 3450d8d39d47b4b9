use Rattle.std.proofs.Common.{◌≡◌, sym, ap, length}
use Rattle.std.proofs.lemmas.List.{nil_from_length}
use borrow.Author.Tests.{eqb-true}
use Rattle.std.specs.FinSet as set
use Rattle.rdf_sets.proofs.SortedLemmas.{union_nothing}
use Rattle.rdf_sets.proofs.sorted.Sorted.unite.Goals as goal

pub returns-then-is_empty-clause-ok : goal.returns-then-is_empty-clause-ok
returns-then-is_empty-clause-ok g c =
    let nil = nil_from_length c.args.more.now (eqb-true (length c.args.more.now) 0 (sym c.if-is_empty.ensures)) in
    union_nothing g.met.T.Item.in_order g.met.T.Item.apart (set.from_list c.args.self.now) (set.from_list c.args.more.now) (ap (λ xs. set.from_list {R = g.T.Item.order} xs) nil)
