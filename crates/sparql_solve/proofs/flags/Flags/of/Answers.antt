use Rattle.sparql_solve.proofs.FlagLemmas.{raised_once}
use Rattle.std.proofs.lemmas.List.Filters.{dedup_is}
use Rattle.sparql_solve.proofs.flags.Flags.of.Goals as goal

pub returns : goal.returns
returns c =
    raised_once c.args.columns.items c.sort.new.self.items c.dedup.new.self.items c.args.len c.in_ok-sort.ensures.permutation
    (dedup_is _ _ _ c.dedup.ensures.filtered)
