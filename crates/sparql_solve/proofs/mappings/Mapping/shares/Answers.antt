use Rattle.std.proofs.Common.{ap, not, ◌∙◌}
use Rattle.sparql_solve.proofs.BoundLemmas.{shares_not_apart}
use Rattle.sparql_solve.proofs.mappings.Mapping.shares.Goals as goal

pub returns : goal.returns
returns c = ap not c.all_hold.ensures ∙ shares_not_apart c.args.self.now c.args.other.now
