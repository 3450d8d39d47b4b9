use Rattle.std.proofs.Common.{refl}
use Rattle.sparql_values.proofs.LawLemmas.{one_way, own, symmetric}
use Rattle.sparql_values.proofs.laws.comparisons_keep_their_laws.Goals as goal

pub returns : goal.returns
returns c = record { symmetric = symmetric; own = own; not_equal = λ a b. refl; one_way = one_way }
