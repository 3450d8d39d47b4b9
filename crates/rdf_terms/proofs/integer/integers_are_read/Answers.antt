use Rattle.rdf_terms.proofs.IntegerLemmas.{decimals_canonical, decimals_read, integers_back, one_canonical}
use Rattle.rdf_terms.proofs.integer.integers_are_read.Goals as goal

pub returns : goal.returns
returns c = record { read = decimals_read; canonical = decimals_canonical; one = one_canonical; back = integers_back }
