use Rattle.sparql_values.proofs.ResultLemmas.{products_back, signed_back, sums_back, truths_back}
use Rattle.sparql_values.proofs.laws.results_are_read_back.Goals as goal

pub returns : goal.returns
returns c = record { truths = truths_back; sums = sums_back; products = products_back; signs = signed_back }
