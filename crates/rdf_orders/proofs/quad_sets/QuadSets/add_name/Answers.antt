use Rattle.std.proofs.Common.{◌∙◌, ap, not}
use Rattle.std.specs.Cmp.{nat_cmp_total}
use Rattle.std.specs.FinSet as set
use Rattle.std.specs.FinSet.{nat_cmp-IsAntisymmetric}
use Rattle.rdf_orders.specs.Contents.{Contents}
use Rattle.rdf_orders.proofs.SetLemmas.{tree_has, tree_insert}
use Rattle.rdf_orders.proofs.quad_sets.QuadSets.add_name.Goals as goal

pub returns-clause-ok : goal.returns-clause-ok
returns-clause-ok c = λ i. record {
  quads = ap (λ (v : Contents). v.quads) c.self.view_is i;
  names = (tree_insert nat_cmp_total nat_cmp-IsAntisymmetric c.self.inside.names.keys c.insert.new.self.keys c.args.name c.in_ok-insert.ensures.updates.0
      ∙ ap (λ (v : Contents). set.insert v.names c.args.name) c.self.view_is) i;
}

pub returns-clause-new : goal.returns-clause-new
returns-clause-new c =
    c.in_ok-insert.ensures.added
    ∙ ap not (tree_has nat_cmp_total nat_cmp-IsAntisymmetric c.self.inside.names.keys c.args.name
    ∙ ap (λ (v : Contents). set.contains v.names c.args.name) c.self.view_is)
