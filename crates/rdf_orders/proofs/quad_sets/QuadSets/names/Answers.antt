use Rattle.std.proofs.Common.{subst}
use Rattle.std.specs.Cmp.{nat_cmp_total}
use Rattle.std.specs.FinSet.{nat_cmp-IsAntisymmetric}
use Rattle.rdf_orders.specs.Contents.{ListsIds}
use Rattle.rdf_orders.proofs.SetLemmas.{lists_sorted}
use Rattle.rdf_orders.proofs.quad_sets.QuadSets.names.Goals as goal

pub returns : goal.returns
returns c =
    subst (λ v. ListsIds v.names c.self.inside.names.keys) c.self.view_is
    (lists_sorted nat_cmp_total nat_cmp-IsAntisymmetric c.self.inside.names.keys c.len.ensures.ordered)
