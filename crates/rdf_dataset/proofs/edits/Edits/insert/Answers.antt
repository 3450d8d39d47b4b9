use Rattle.std.proofs.Common.{◌∙◌, sym, ap, refl}
use Rattle.std.proofs.lemmas.Result.{on_ok_weaker, on_err_weaker, IfOk-weaker}
use Rattle.rdf_terms.specs.declared.quad.GraphName.TheVariants.{Named}
use Rattle.rdf_dataset.proofs.QuadEditLemmas.{default_delta, net_with_quad, net_names, net_quads, same_net}
use Rattle.rdf_dataset.proofs.StateLemmas.{named_delta, known_name}
use Rattle.rdf_dataset.proofs.edits.Edits.insert.Goals as goal

pub returns-in_default-clause-ok : goal.returns-in_default-clause-ok
returns-in_default-clause-ok c =
    on_ok_weaker c.insert.result (λ a s t e h k.
    net_with_quad s t c.args.quad.now _ _ _ _ _ _ _ _ c.self.inside.before c.self.inside.after (c.self.view_is ∙ e)
    (a s.quads t.quads (net_quads s t c.self.inside.quads.added.quads c.self.inside.quads.removed c.self.inside.names.added c.self.inside.names.removed c.self.inside.before c.self.inside.after (c.self.view_is ∙ e)) h)
    (default_delta s.names t.names c.args.quad.now.graph _ _ (λ n d. c.in_default.not-Named n (c.graph.ensures.value ∙ d)) (net_names s t c.self.inside.quads.added.quads c.self.inside.quads.removed c.self.inside.names.added c.self.inside.names.removed c.self.inside.before c.self.inside.after (c.self.view_is ∙ e)))) c.insert.ensures.ok

pub returns-in_default-clause-new : goal.returns-in_default-clause-new
returns-in_default-clause-new c =
    IfOk-weaker c.insert.result _ _ (λ b a s t e h. a s.quads t.quads (net_quads s t c.self.inside.quads.added.quads c.self.inside.quads.removed c.self.inside.names.added c.self.inside.names.removed c.self.inside.before c.self.inside.after (c.self.view_is ∙ e)) h) c.insert.ensures.new

pub returns-in_default-clause-err : goal.returns-in_default-clause-err
returns-in_default-clause-err c =
    on_err_weaker c.insert.result (λ x.
    same_net c.insert.new.self.added.quads c.self.inside.quads.added.quads c.insert.new.self.removed c.self.inside.quads.removed c.self.inside.names.added c.self.inside.names.added
    c.self.inside.names.removed c.self.inside.names.removed c.self.inside.before c.self.inside.after (λ i. (x i).added.quads) (λ i. (x i).removed) refl refl
    ∙ c.self.view_is) c.insert.ensures.err

pub returns-clause-ok : goal.returns-clause-ok
returns-clause-ok c =
    on_ok_weaker c.insert_in_graph.result (λ a s t e h k.
    let is = sym c.graph.ensures.value ∙ c.in-Named.is ∙ ap Named (sym c.in_ok-name.ensures) in
    net_with_quad s t c.args.quad.now _ _ _ _ _ _ _ _ c.self.inside.before c.self.inside.after (c.self.view_is ∙ e)
    (a.1 s.quads t.quads (net_quads s t c.self.inside.quads.added.quads c.self.inside.quads.removed c.self.inside.names.added c.self.inside.names.removed c.self.inside.before c.self.inside.after (c.self.view_is ∙ e)) h)
    (named_delta s.names t.names c.args.quad.now.graph c.in_ok-name.name _ _ is
    (a.0 s.names t.names (net_names s t c.self.inside.quads.added.quads c.self.inside.quads.removed c.self.inside.names.added c.self.inside.names.removed c.self.inside.before c.self.inside.after (c.self.view_is ∙ e)) (known_name s.names c.args.named c.args.quad.now.graph c.in_ok-name.name is k)))) c.insert_in_graph.ensures.ok

pub returns-clause-new : goal.returns-clause-new
returns-clause-new c =
    IfOk-weaker c.insert_in_graph.result _ _ (λ b a s t e h. a s.quads t.quads (net_quads s t c.self.inside.quads.added.quads c.self.inside.quads.removed c.self.inside.names.added c.self.inside.names.removed c.self.inside.before c.self.inside.after (c.self.view_is ∙ e)) h) c.insert_in_graph.ensures.new

pub returns-clause-err : goal.returns-clause-err
returns-clause-err c =
    on_err_weaker c.insert_in_graph.result (λ x.
    same_net c.insert_in_graph.new.quads.added.quads c.self.inside.quads.added.quads c.insert_in_graph.new.quads.removed c.self.inside.quads.removed
    c.insert_in_graph.new.names.added c.self.inside.names.added c.insert_in_graph.new.names.removed c.self.inside.names.removed c.self.inside.before c.self.inside.after
    (λ i. (x.2 i).added.quads) (λ i. (x.2 i).removed) x.0 x.1
    ∙ c.self.view_is) c.insert_in_graph.ensures.err
