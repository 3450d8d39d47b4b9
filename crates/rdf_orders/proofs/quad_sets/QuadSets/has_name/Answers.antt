use Rattle.std.proofs.Common.{◌∙◌, ap}
use Rattle.std.specs.Cmp.{nat_cmp_total}
use Rattle.std.specs.FinSet as set
use Rattle.std.specs.FinSet.{nat_cmp-IsAntisymmetric}
use Rattle.rdf_orders.proofs.SetLemmas.{tree_has}
use Rattle.rdf_orders.proofs.quad_sets.QuadSets.has_name.Goals as goal

pub returns : goal.returns
returns c =
    c.contains.ensures ∙ tree_has nat_cmp_total nat_cmp-IsAntisymmetric c.self.inside.names.keys c.args.name
    ∙ ap (λ v. set.contains v.names c.args.name) c.self.view_is
