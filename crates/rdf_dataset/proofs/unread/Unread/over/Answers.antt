use Rattle.rdf_dataset.proofs.UnreadLemmas.{nothing_changed}
use Rattle.rdf_dataset.proofs.unread.Unread.over.Goals as goal

pub invariant_of-result : goal.invariant_of-result
invariant_of-result g c =
    let s = g.D.Source.contents c.args.under.now in
    (nothing_changed s _ _ _ _ _ c.next_blank.ensures.sound (c.none.ensures s.quads) (c.none-2.ensures s.names) c.next_blank.ensures.value).0

pub returns : goal.returns
returns g c =
    let s = g.D.Source.contents c.args.under.now in
    (nothing_changed s _ _ _ _ _ c.next_blank.ensures.sound (c.none.ensures s.quads) (c.none-2.ensures s.names) c.next_blank.ensures.value).1
