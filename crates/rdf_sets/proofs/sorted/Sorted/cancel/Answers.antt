use Rattle.std.proofs.Common.{ap, ◌∙◌}
use Rattle.std.specs.FinSet as set
use Rattle.rdf_sets.proofs.CommonLemmas.{out_of_one, out_of_other}
use Rattle.rdf_sets.proofs.sorted.Sorted.cancel.Goals as goal

pub returns-clause-one : goal.returns-clause-one
returns-clause-one g c =
    out_of_one g.met.T.Item.in_order g.met.T.Item.apart c.args.self.now c.args.other.now _ c.in_ok-common.ensures _
    (c.subtract.ensures ∙ ap (λ l. set.difference (set.from_list {R = g.T.Item.order} c.args.self.now) (set.from_list l)) c.as_slice.ensures.items)

pub returns-clause-other : goal.returns-clause-other
returns-clause-other g c =
    out_of_other g.met.T.Item.in_order g.met.T.Item.apart c.args.self.now c.args.other.now _ c.in_ok-common.ensures _
    (c.subtract-2.ensures ∙ ap (λ l. set.difference (set.from_list {R = g.T.Item.order} c.args.other.now) (set.from_list l)) c.as_slice-2.ensures.items)
