use Rattle.sparql_solve.proofs.FlagLemmas.{flags_len}
use Rattle.sparql_solve.proofs.flags.Flags.len.Goals as goal

pub returns : goal.returns
returns c = flags_len c.args.self.now c.self.inside.are_all c.self.inside.columns.items c.self.inside.len c.self.view_is
