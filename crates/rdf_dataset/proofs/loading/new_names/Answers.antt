use Rattle.std.proofs.Common.{refl, subst, sym}
use Rattle.std.proofs.lemmas.List.{drop_all}
use Rattle.rdf_dataset.proofs.LoadingLemmas.{Sound, if_ok_both, naming_begins, naming_ends, naming_goes_on, naming_skips, next_quad, on_ok_any, same_delta, sound_before}
use Rattle.rdf_dataset.proofs.loading.new_names.Goals.{then-not-is_that+in_ok-name_graph, else-not-is_that}
use Rattle.rdf_dataset.proofs.loading.new_names.Goals as goal

pub loop-quad-init : goal.loop-quad-init
loop-quad-init g c = record {
  naming = naming_begins _ _ _ _ _ (c.none-names.ensures (g.D.Source.contents c.args.under.now).names) refl;
  sound = λ h. h;
}

pub loop-quad-preserved : goal.loop-quad-preserved
loop-quad-preserved g c =
    let next = next_quad c.args.quads.now c.loop-quad.quad-index c.quad-item.result c.loop-quad-test.true c.quad-item.is in
    let naming = c.loop-quad.invariant.naming in
    let sound = sound_before _ _ _ _ next c.loop-quad.invariant.sound c.graph-graph.ensures.sound in
    elim c.if-not-is_that.branch [
      | then-not-is_that+in_ok-name_graph w ↦
          rw w.names-is (record {
            naming = naming_goes_on _ _ _ _ _ _ _ _ _ _ _ naming next c.graph-graph.ensures.value (w.in_ok-name_graph.ensures.ok naming.now naming.delta);
            sound = sound;
          })
      | else-not-is_that w ↦
          rw w.names-is (record {
            naming = naming_skips _ _ _ _ _ _ _ _ _ naming next c.graph-graph.ensures.value (c.is_that.ensures w.if-not-is_that.false);
            sound = sound;
          })
    ]

pub returns-clause-names : goal.returns-clause-names
returns-clause-names g c =
    let delta = naming_ends _ _ _ _ _ _ c.loop-quad.invariant.naming (drop_all c.loop-quad.quad-index c.args.quads.now c.loop-quad-test.false) in
    if_ok_both c.into_delta.result _ _ _ (λ x a r. same_delta _ _ _ _ x.added x.removed delta a r) c.into_delta.ensures.added c.into_delta.ensures.removed

pub returns-clause-sound : goal.returns-clause-sound
returns-clause-sound g c =
    on_ok_any c.into_delta.result (c.loop-quad.invariant.sound (subst Sound (sym (drop_all c.loop-quad.quad-index c.args.quads.now c.loop-quad-test.false)) tt))
