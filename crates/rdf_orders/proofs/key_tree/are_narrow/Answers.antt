use Rattle.std.proofs.Common.{[], get_or, take, rules}
use Rattle.std.proofs.lemmas.List.{take_more}
use Rattle.rdf_orders.specs.Inside.Widths.{IsNarrow}
use Rattle.rdf_orders.proofs.WidthLemmas.{all_joined}
use Rattle.rdf_orders.proofs.key_tree.are_narrow.Goals as goal

pub loop-key-preserved : goal.loop-key-preserved
loop-key-preserved c =
    let is : IsNarrow (get_or c.args.keys.now c.loop-key.key-index []) = search rules in
    rw (take_more c.args.keys.now c.loop-key.key-index [] c.loop-key-test.true)
    (all_joined (take c.loop-key.key-index c.args.keys.now) _ c.loop-key.invariant (is, tt))
