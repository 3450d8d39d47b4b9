use Rattle.std.proofs.Common.{◌∙◌, ap, sym}
use mathlib.Core.Bool.{true≢false}
use Rattle.std.specs.FinSet.{contains-empty}
use Rattle.rdf_orders.specs.Quads.{id_quad_cmp}
use Rattle.rdf_orders.specs.Contents.{Contents}
use Rattle.rdf_orders.proofs.ContentsLemmas.{with_new_trees_and_names}
use Rattle.rdf_orders.proofs.TreeLemmas.{mirrors_itself, quads_held}
use Rattle.rdf_orders.proofs.quad_sets.QuadSets.rebuild.Goals as goal

pub insert_all-requires-clause-new_quads : goal.insert_all-requires-clause-new_quads
insert_all-requires-clause-new_quads c = λ x m h. true≢false (sym h ∙ contains-empty id_quad_cmp x)

pub invariant_of-self : goal.invariant_of-self
invariant_of-self c = mirrors_itself _ _ (c.in_ok-trees.ensures _ c.self.invariant)

pub returns-clause-ok : goal.returns-clause-ok
returns-clause-ok c =
    with_new_trees_and_names c.args.self.now _ _ _ c.args.quads.items c.args.names.now (ap (λ (v : Contents). v.quads) c.self.view_is)
    (quads_held _ _ (c.in_ok-trees.ensures _ c.self.invariant))
    (ap (λ (v : Contents). v.names) (c.self-2.view_is ∙ c.in_ok-insert_all.ensures.ok))
