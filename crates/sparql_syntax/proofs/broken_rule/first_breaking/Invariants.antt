use Rattle.std.proofs.Common.{◌≡◌, ◌+◌, false, length}
use Rattle.sparql_syntax.specs.BrokenRules.{breaking_from}
use Rattle.sparql_syntax.specs.declared.clause.Clause.TheVariants.{Pattern}
use Rattle.sparql_syntax.proofs.broken_rule.first_breaking.Given as goal

abbrev pub invariant-loop-terminal : goal.invariant-loop-terminal
invariant-loop-terminal l = record {
  found : breaking_from l.rule Pattern false l.initial.left ≡ breaking_from l.rule l.clause l.subject l.left + l.number;
  room : l.number + length l.left ≡ length l.initial.left;
}

abbrev pub decreases-loop-terminal : goal.decreases-loop-terminal
decreases-loop-terminal l = length l.left
