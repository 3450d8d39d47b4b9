use Rattle.sparql_values.proofs.LawLemmas.{logic_table, not_table}
use Rattle.sparql_values.proofs.laws.logic_tables_hold.Goals as goal

pub returns : goal.returns
returns c = record { pairs = logic_table; negation = not_table }
