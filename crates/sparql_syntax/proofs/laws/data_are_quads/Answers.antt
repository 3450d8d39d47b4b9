use Rattle.sparql_syntax.proofs.RuleLawLemmas.{patterns_are_quads}
use Rattle.sparql_syntax.proofs.laws.data_are_quads.Goals as goal

pub returns : goal.returns
returns c = patterns_are_quads
