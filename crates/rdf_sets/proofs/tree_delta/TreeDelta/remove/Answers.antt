use Rattle.std.proofs.Common.{◌∙◌, sym, ap, not}
use Rattle.std.specs.FinSet as set
use Rattle.std.proofs.lemmas.Result.{on_ok_weaker, IfOk-weaker}
use Rattle.rdf_sets.proofs.DeltaLemmas.{has_new, has_known, remove_known, remove_new}
use Rattle.rdf_sets.proofs.tree_delta.TreeDelta.remove.Goals as goal

pub returns-in_ok-copied-clause-ok : goal.returns-in_ok-copied-clause-ok
returns-in_ok-copied-clause-ok g c = on_ok_weaker c.insert.result (λ e s t d h. remove_known g.met.T.Item.in_order g.met.T.Item.apart s t c.args.self.now.added c.args.self.now.removed d c.args.item.now c.insert.new.self (sym c.if-beneath.true ∙ h) (e ∙ ap (λ x. set.insert (set.from_list c.args.self.now.removed) x) c.in_ok-copied.ensures)) c.insert.ensures.ok

pub returns-in_ok-copied-clause-was : goal.returns-in_ok-copied-clause-was
returns-in_ok-copied-clause-was g c = IfOk-weaker c.insert.result _ _ (λ b e s t d h. e ∙ ap (λ x. not (set.contains (set.from_list {R = g.T.Item.order} c.args.self.now.removed) x)) c.in_ok-copied.ensures ∙ has_known g.met.T.Item.in_order g.met.T.Item.apart s t c.args.self.now.added c.args.self.now.removed d c.args.item.now (sym c.if-beneath.true ∙ h)) c.insert.ensures.new

pub returns-else-beneath-clause-ok : goal.returns-else-beneath-clause-ok
returns-else-beneath-clause-ok g c s t d h = remove_new g.met.T.Item.in_order g.met.T.Item.apart s t _ _ d c.args.item.now c.remove.new.self (sym c.if-beneath.false ∙ h) c.remove.ensures.items

pub returns-else-beneath-clause-was : goal.returns-else-beneath-clause-was
returns-else-beneath-clause-was g c s t d h = c.remove.ensures.was ∙ has_new g.met.T.Item.in_order g.met.T.Item.apart s t _ _ d c.args.item.now (sym c.if-beneath.false ∙ h)
