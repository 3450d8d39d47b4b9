use Rattle.std.proofs.Common.{◌∙◌, sym, ap, not}
use Rattle.std.specs.FinSet as set
use Rattle.std.proofs.lemmas.Result.{on_ok_weaker, IfOk-weaker}
use Rattle.rdf_terms.specs.Order.{quad_cmp}
use Rattle.rdf_store.specs.Stored.{Stored}
use Rattle.rdf_dataset.proofs.QuadEditLemmas.{has_new_quad, has_known_quad, remove_known_quad, remove_new_quad}
use Rattle.rdf_dataset.proofs.quad_edits.QuadEdits.remove.Goals as goal

pub returns-in_ok-copy-clause-ok : goal.returns-in_ok-copy-clause-ok
returns-in_ok-copy-clause-ok c =
    on_ok_weaker c.insert.result (λ e s t d h. remove_known_quad s t c.args.self.now.added.quads c.args.self.now.removed d c.args.quad.now c.insert.new.self (sym c.if-beneath.true ∙ h)
    (e ∙ ap (λ x. set.insert (set.from_list c.args.self.now.removed) x) c.in_ok-copy.ensures)) c.insert.ensures.ok

pub returns-in_ok-copy-clause-was : goal.returns-in_ok-copy-clause-was
returns-in_ok-copy-clause-was c =
    IfOk-weaker c.insert.result _ _ (λ b e s t d h. e ∙ ap (λ x. not (set.contains (set.from_list {R = quad_cmp} c.args.self.now.removed) x)) c.in_ok-copy.ensures
    ∙ has_known_quad s t c.args.self.now.added.quads c.args.self.now.removed d c.args.quad.now (sym c.if-beneath.true ∙ h)) c.insert.ensures.new

pub returns-else-beneath-clause-ok : goal.returns-else-beneath-clause-ok
returns-else-beneath-clause-ok c s t d h =
    remove_new_quad s t _ _ d c.args.quad.now c.remove.new.self.quads (sym c.if-beneath.false ∙ h) (ap (λ (v : Stored). v.quads) c.remove.ensures.quads)

pub returns-else-beneath-clause-was : goal.returns-else-beneath-clause-was
returns-else-beneath-clause-was c s t d h = c.remove.ensures.was ∙ has_new_quad s t _ _ d c.args.quad.now (sym c.if-beneath.false ∙ h)
