use Rattle.sparql_solve.proofs.FlagLemmas.{flags_all, flags_some}
use Rattle.sparql_solve.proofs.flags.Flags.columns.Goals as goal

pub returns-then-self-clause-all : goal.returns-then-self-clause-all
returns-then-self-clause-all c = flags_all c.args.self.now c.self.inside.are_all c.self.inside.columns.items c.self.inside.len c.self.view_is c.if-self.true

pub returns-else-self-clause-some : goal.returns-else-self-clause-some
returns-else-self-clause-some c =
    flags_some c.args.self.now c.self.inside.are_all c.self.inside.columns.items c.as_slice.result.now c.self.inside.len c.self.view_is c.if-self.false
    c.as_slice.ensures.value
