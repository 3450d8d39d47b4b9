use Rattle.sparql_solve.proofs.PartLemmas.{parted_same}
use Rattle.sparql_solve.proofs.parts.parted.Goals as goal

pub returns : goal.returns
returns c =
    parted_same c.args.rows.now c.in_ok-all.all.items c.sort_by.new.self.items c.in_ok-all.ensures c.in_ok-sort_by.ensures.permutation
