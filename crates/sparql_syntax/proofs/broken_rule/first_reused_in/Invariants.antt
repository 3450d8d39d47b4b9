use Rattle.std.proofs.Common.{◌≡◌, length}
use Rattle.sparql_syntax.specs.SeenLabels.{none_seen}
use Rattle.sparql_syntax.specs.declared.clause.Clause.TheVariants.{Pattern}
use Rattle.sparql_syntax.proofs.RuleWalks.{reused_start}
use Rattle.sparql_syntax.proofs.broken_rule.first_reused_in.Given as goal

abbrev pub invariant-loop-found : goal.invariant-loop-found
invariant-loop-found l = reused_start (length l.text) Pattern none_seen none_seen l.initial.walk ≡ reused_start (length l.text) l.clause l.inserted l.patterns l.walk

abbrev pub decreases-loop-found : goal.decreases-loop-found
decreases-loop-found l = length l.walk
