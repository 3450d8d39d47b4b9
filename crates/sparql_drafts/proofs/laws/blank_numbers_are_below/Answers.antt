use Rattle.sparql_drafts.proofs.DraftsBelow.{data_in_order, data_numbered, pattern_in_order, pattern_numbered}
use Rattle.sparql_drafts.proofs.laws.blank_numbers_are_below.Goals as goal

pub returns-clause-data : goal.returns-clause-data
returns-clause-data c = data_numbered

pub returns-clause-pattern : goal.returns-clause-pattern
returns-clause-pattern c = pattern_numbered

pub returns-clause-data_order : goal.returns-clause-data_order
returns-clause-data_order c = data_in_order

pub returns-clause-pattern_order : goal.returns-clause-pattern_order
returns-clause-pattern_order c = pattern_in_order
