use Rattle.rdf_dataset.proofs.ChangeLawLemmas.{data_laws, exchange_laws, net_laws}
use Rattle.rdf_dataset.proofs.law.changes_are_exact.Goals as goal

pub returns-clause-nets : goal.returns-clause-nets
returns-clause-nets c = net_laws

pub returns-clause-data : goal.returns-clause-data
returns-clause-data c = data_laws

pub returns-clause-exchanges : goal.returns-clause-exchanges
returns-clause-exchanges c = exchange_laws
