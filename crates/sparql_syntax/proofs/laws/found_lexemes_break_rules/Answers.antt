use Rattle.sparql_syntax.proofs.BrokenRuleLemmas as broken
use Rattle.sparql_syntax.proofs.ReusedFound as found
use Rattle.sparql_syntax.proofs.laws.found_lexemes_break_rules.Goals as goal

pub returns-clause-reused : goal.returns-clause-reused
returns-clause-reused c = found.reused_is_broken

pub returns-clause-reused_in_queries : goal.returns-clause-reused_in_queries
returns-clause-reused_in_queries c = found.reused_is_broken_in_queries

pub returns-clause-blank : goal.returns-clause-blank
returns-clause-blank c = broken.blank_is_broken

pub returns-clause-variable : goal.returns-clause-variable
returns-clause-variable c = broken.variable_is_broken

pub returns-clause-literal : goal.returns-clause-literal
returns-clause-literal c = broken.literal_is_broken
