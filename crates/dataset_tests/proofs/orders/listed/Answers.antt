use Rattle.std.proofs.Common.{◌∙◌, sym}
use mathlib.Core.Bool.{true≢false}
use Rattle.std.specs.FinSet.{contains-empty}
use Rattle.std.specs.Ordering.{nat_cmp}
use Rattle.rdf_orders.specs.Quads.{id_quad_cmp}
use Rattle.dataset_tests.proofs.orders.listed.Goals as goal

pub insert_list-requires-clause-new_quads : goal.insert_list-requires-clause-new_quads
insert_list-requires-clause-new_quads c = rw c.new-sets.ensures (λ x m h. true≢false (sym m ∙ contains-empty id_quad_cmp x))

pub insert_list-requires-clause-new_names : goal.insert_list-requires-clause-new_names
insert_list-requires-clause-new_names c = rw c.new-sets.ensures (λ x m h. true≢false (sym m ∙ contains-empty nat_cmp x))
