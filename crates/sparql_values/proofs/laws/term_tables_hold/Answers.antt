use Rattle.sparql_values.proofs.TableLemmas.{effectives, functions}
use Rattle.sparql_values.proofs.laws.term_tables_hold.Goals as goal

pub returns : goal.returns
returns c = record { effective = effectives; functions = functions }
