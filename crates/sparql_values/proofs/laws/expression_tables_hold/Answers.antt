use Rattle.sparql_values.proofs.FormTableLemmas.{forms}
use Rattle.sparql_values.proofs.TableLemmas.{filters, numbers, variables}
use Rattle.sparql_values.proofs.laws.expression_tables_hold.Goals as goal

pub returns : goal.returns
returns c = record { filters = filters; variables = variables; numbers = numbers; forms = forms }
