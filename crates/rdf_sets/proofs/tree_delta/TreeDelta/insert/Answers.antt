use Rattle.std.proofs.Common.{◌∙◌, sym, ap, not}
use Rattle.std.proofs.lemmas.Result.{on_ok_weaker, IfOk-weaker}
use Rattle.rdf_sets.proofs.DeltaLemmas.{has_new, lost_known, insert_known, insert_new}
use Rattle.rdf_sets.proofs.tree_delta.TreeDelta.insert.Goals as goal

pub returns-then-beneath-clause-ok : goal.returns-then-beneath-clause-ok
returns-then-beneath-clause-ok g c s t d h = insert_known g.met.T.Item.in_order g.met.T.Item.apart s t _ _ d c.args.item c.remove.new.self (sym c.if-beneath.true ∙ h) c.remove.ensures.items

pub returns-then-beneath-clause-new : goal.returns-then-beneath-clause-new
returns-then-beneath-clause-new g c s t d h = c.remove.ensures.was ∙ lost_known g.met.T.Item.in_order g.met.T.Item.apart s t _ _ d c.args.item (sym c.if-beneath.true ∙ h)

pub returns-else-beneath-clause-ok : goal.returns-else-beneath-clause-ok
returns-else-beneath-clause-ok g c = on_ok_weaker c.insert.result (λ e s t d h. insert_new g.met.T.Item.in_order g.met.T.Item.apart s t c.args.self.now.added c.args.self.now.removed d c.args.item c.insert.new.self (sym c.if-beneath.false ∙ h) e) c.insert.ensures.ok

pub returns-else-beneath-clause-new : goal.returns-else-beneath-clause-new
returns-else-beneath-clause-new g c = IfOk-weaker c.insert.result _ _ (λ b e s t d h. e ∙ ap not (has_new g.met.T.Item.in_order g.met.T.Item.apart s t c.args.self.now.added c.args.self.now.removed d c.args.item (sym c.if-beneath.false ∙ h))) c.insert.ensures.new
