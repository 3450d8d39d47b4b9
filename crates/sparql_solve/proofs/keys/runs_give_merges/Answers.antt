use Rattle.sparql_solve.proofs.KeyLemmas.{runs_suffice}
use Rattle.sparql_solve.proofs.keys.runs_give_merges.Goals as goal

pub returns : goal.returns
returns c = runs_suffice
