use Rattle.std.proofs.Common.{◌∙◌, ap, sym, refl, [], take, get_or}
use Rattle.std.proofs.lemmas.List.{take_more}
use Rattle.rdf_orders.specs.Quads.{quad_of}
use Rattle.rdf_orders.specs.Contents.{Contents, with_quad}
use Rattle.rdf_orders.proofs.ContentsLemmas.{with_none, with_one_quad, with_new_trees, refused_at_quad, nothing_came}
use Rattle.rdf_orders.proofs.TreeLemmas.{on_err_of, quads_held, mirrors_itself}
use Rattle.rdf_orders.proofs.quad_sets.QuadSets.insert_quads.Goals as goal

pub loop-quad-init : goal.loop-quad-init
loop-quad-init c = sym (with_none c.args.self.now)

pub loop-quad-preserved : goal.loop-quad-preserved
loop-quad-preserved c =
    rw (take_more c.args.quads.now c.loop-quad.quad-index [] c.loop-quad-test.true)
    (c.in_ok-insert.ensures.ok ∙ ap (λ s. with_quad s (quad_of (get_or c.args.quads.now c.loop-quad.quad-index []))) c.loop-quad.invariant ∙ with_one_quad c.args.self.now (take c.loop-quad.quad-index c.args.quads.now) [] (get_or c.args.quads.now c.loop-quad.quad-index []))

pub returns-in_err-insert-clause-err : goal.returns-in_err-insert-clause-err
returns-in_err-insert-clause-err c =
    on_err_of c.from_residual-in_err-insert.result
    (refused_at_quad _ _ _ _ c.loop-quad.quad-index (c.in_err-insert.ensures.err ∙ c.loop-quad.invariant))

-- ---- built at once

pub returns-in_err-self-inside-clause-err : goal.returns-in_err-self-inside-clause-err
returns-in_err-self-inside-clause-err c = on_err_of c.from_residual.result (nothing_came _ _ _ refl)

pub invariant_of-self : goal.invariant_of-self
invariant_of-self c = mirrors_itself _ _ (c.in_ok-self-inside.ensures _ c.self.invariant)

pub returns-then-are_many-clause-ok : goal.returns-then-are_many-clause-ok
returns-then-are_many-clause-ok c =
    with_new_trees c.args.self.now _ _ _ c.args.quads.now (ap (λ (v : Contents). v.quads) c.self.view_is)
    (quads_held _ _ (c.in_ok-self-inside.ensures _ c.self.invariant))
    (ap (λ (v : Contents). v.names) c.self.view_is)
