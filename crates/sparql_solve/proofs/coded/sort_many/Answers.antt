use Rattle.sparql_solve.proofs.CodedRowLemmas.{alike_before_all}
use Rattle.sparql_solve.proofs.coded.sort_many.Goals as goal

pub sort_coded-requires : goal.sort_coded-requires
sort_coded-requires c = alike_before_all _
