use Rattle.std.proofs.Common.{◌≡◌, length, rules}
use Rattle.rdf_orders.proofs.WidthLemmas.{floor_excluded, floor_included}
use Rattle.rdf_orders.proofs.key_tree.narrow_bound.Goals as goal

pub returns-in-None : goal.returns-in-None
returns-in-None c =
    let four : length c.in-Included.key ≡ 4 = search rules in
    rw c.in-Included.is (floor_included c.in-Included.key c.floor.result four c.in-None.ensures.absent c.floor.ensures)

pub returns-in-Excluded : goal.returns-in-Excluded
returns-in-Excluded c =
    let four : length c.in-Excluded.key ≡ 4 = search rules in
    rw c.in-Excluded.is (floor_excluded c.in-Excluded.key c.floor-in-Excluded.result four c.floor-in-Excluded.ensures)
