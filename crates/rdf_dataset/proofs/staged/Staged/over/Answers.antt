use Rattle.std.proofs.Common.{sym}
use Rattle.rdf_dataset.proofs.EmptiedLemmas.{restaged_with}
use Rattle.rdf_dataset.proofs.StateLemmas.{restaged}
use Rattle.rdf_dataset.proofs.staged.Staged.over.Goals as goal

pub invariant_of-result : goal.invariant_of-result
invariant_of-result g c =
    let u = g.D.Source.contents c.args.under.now in
    restaged_with u u c.none-edits.result _ (c.none-edits.ensures u (sym c.next_blank.ensures.value)) c.next_blank.ensures.sound (c.none.ensures u)

pub returns : goal.returns
returns g c =
    let u = g.D.Source.contents c.args.under.now in
    (restaged u u c.none-edits.result (c.none-edits.ensures u (sym c.next_blank.ensures.value)) c.next_blank.ensures.sound).1
