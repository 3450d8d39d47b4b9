use Rattle.std.proofs.Common.{◌∙◌, ap}
use Rattle.std.specs.Cmp.{nat_cmp_total}
use Rattle.std.specs.FinSet as set
use Rattle.std.specs.FinSet.{nat_cmp-IsAntisymmetric}
use Rattle.rdf_orders.specs.Contents.{Contents}
use Rattle.rdf_orders.proofs.SetLemmas.{tree_has, tree_remove}
use Rattle.rdf_orders.proofs.quad_sets.QuadSets.drop_name.Goals as goal

pub returns-clause-names : goal.returns-clause-names
returns-clause-names c = λ i. record {
  quads = ap (λ (v : Contents). v.quads) c.self.view_is i;
  names = (tree_remove nat_cmp_total nat_cmp-IsAntisymmetric c.self.inside.names.keys c.remove.new.self.keys c.args.name c.remove.ensures.updates.0
      ∙ ap (λ (v : Contents). set.remove v.names c.args.name) c.self.view_is) i;
}

pub returns-clause-was : goal.returns-clause-was
returns-clause-was c =
    c.remove.ensures.test ∙ tree_has nat_cmp_total nat_cmp-IsAntisymmetric c.self.inside.names.keys c.args.name
    ∙ ap (λ (v : Contents). set.contains v.names c.args.name) c.self.view_is
