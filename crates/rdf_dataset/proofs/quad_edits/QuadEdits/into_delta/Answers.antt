use Rattle.std.proofs.Common.{◌∙◌, ap}
use Rattle.std.specs.FinSet as set
use Rattle.rdf_terms.specs.Order.{quad_cmp}
use Rattle.rdf_dataset.proofs.StoredLemmas.{lists_gained}
use Rattle.rdf_dataset.proofs.quad_edits.QuadEdits.into_delta.Goals as goal

pub from_rising-requires : goal.from_rising-requires
from_rising-requires c = (c.in_order.ensures c.args.self.added.quads (lists_gained _ _ _ c.in_ok-append_quads.ensures.ok c.new-added.ensures.items)).rises

pub returns-clause-added : goal.returns-clause-added
returns-clause-added c =
    ap (set.from_list {R = quad_cmp}) c.from_rising.ensures
    ∙ (c.in_order.ensures c.args.self.added.quads (lists_gained _ _ _ c.in_ok-append_quads.ensures.ok c.new-added.ensures.items)).lists.all
