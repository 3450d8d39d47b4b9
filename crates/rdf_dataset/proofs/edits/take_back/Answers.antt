use Rattle.std.proofs.Common.{◌∙◌, sym, ap}
use Rattle.std.specs.FinSet as set
use Rattle.rdf_dataset.proofs.StateLemmas.{name_back, name_still, not_true, not_false}
use Rattle.rdf_dataset.proofs.edits.take_back.Goals as goal

pub returns-then-added : goal.returns-then-added
returns-then-added c before was new =
    c.remove.ensures.items ∙ ap (λ x. set.remove x c.args.name.now) was ∙ name_back before c.args.name.now (not_true _ (sym c.if-added.true ∙ new))

pub returns-else-added : goal.returns-else-added
returns-else-added c before was new =
    was ∙ name_still before c.args.name.now (not_false _ (sym c.if-added.false ∙ new))
