use Rattle.std.proofs.Common.{◌∙◌, ap, take, get_or}
use Rattle.std.proofs.lemmas.List.{take_more}
use Rattle.rdf_orders.specs.Contents.{with_name}
use Rattle.rdf_orders.proofs.ContentsLemmas.{with_one_name, refused_before_names, refused_at_name}
use Rattle.rdf_orders.proofs.TreeLemmas.{on_err_of}
use Rattle.rdf_orders.proofs.quad_sets.QuadSets.insert_each.Goals as goal

pub loop-name-preserved : goal.loop-name-preserved
loop-name-preserved c =
    rw (take_more c.args.names.now c.loop-name.name-index 0 c.loop-name-test.true)
    (c.in_ok-add_name.ensures.ok ∙ ap (λ s. with_name s (get_or c.args.names.now c.loop-name.name-index 0)) c.loop-name.invariant ∙ with_one_name c.args.self.now c.args.quads.now (take c.loop-name.name-index c.args.names.now) (get_or c.args.names.now c.loop-name.name-index 0))

pub returns-in_err-insert_quads-clause-err : goal.returns-in_err-insert_quads-clause-err
returns-in_err-insert_quads-clause-err c =
    on_err_of c.from_residual.result (refused_before_names _ _ _ c.args.names.now c.in_err-insert_quads.ensures.err)

pub returns-in_err-add_name-clause-err : goal.returns-in_err-add_name-clause-err
returns-in_err-add_name-clause-err c =
    on_err_of c.from_residual-in_err-add_name.result
    (refused_at_name _ _ _ _ c.loop-name.name-index (c.in_err-add_name.ensures.err ∙ c.loop-name.invariant))
