use Rattle.std.proofs.Common.{◌∙◌, sym, ap, not}
use Rattle.std.proofs.lemmas.Result.{on_ok_weaker, IfOk-weaker}
use Rattle.rdf_store.specs.Stored.{Stored}
use Rattle.rdf_dataset.proofs.QuadEditLemmas.{has_new_quad, lost_known_quad, insert_known_quad, insert_new_quad}
use Rattle.rdf_dataset.proofs.quad_edits.QuadEdits.insert.Goals as goal

pub returns-then-beneath-clause-ok : goal.returns-then-beneath-clause-ok
returns-then-beneath-clause-ok c s t d h = insert_known_quad s t _ _ d c.args.quad.now c.remove.new.self (sym c.if-beneath.true ∙ h) c.remove.ensures.items

pub returns-then-beneath-clause-new : goal.returns-then-beneath-clause-new
returns-then-beneath-clause-new c s t d h = c.remove.ensures.was ∙ lost_known_quad s t _ _ d c.args.quad.now (sym c.if-beneath.true ∙ h)

pub returns-else-beneath-clause-ok : goal.returns-else-beneath-clause-ok
returns-else-beneath-clause-ok c =
    on_ok_weaker c.insert.result (λ e s t d h. insert_new_quad s t c.args.self.now.added.quads c.args.self.now.removed d c.args.quad.now c.insert.new.self.quads (sym c.if-beneath.false ∙ h)
    (ap (λ (v : Stored). v.quads) e)) c.insert.ensures.ok

pub returns-else-beneath-clause-new : goal.returns-else-beneath-clause-new
returns-else-beneath-clause-new c =
    IfOk-weaker c.insert.result _ _ (λ b e s t d h. e ∙ ap not (has_new_quad s t c.args.self.now.added.quads c.args.self.now.removed d c.args.quad.now (sym c.if-beneath.false ∙ h))) c.insert.ensures.new
