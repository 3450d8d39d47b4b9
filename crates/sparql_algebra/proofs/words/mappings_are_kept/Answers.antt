use Rattle.sparql_algebra.specs.Solutions.{solutions}
use Rattle.sparql_algebra.proofs.WordLemmas.{one_expression, minus_keeps}
use Rattle.sparql_algebra.proofs.words.mappings_are_kept.Goals as goal

pub returns-clause-filter : goal.returns-clause-filter
returns-clause-filter c vs d g F A m = one_expression vs F (solutions vs d g A) m

pub returns-clause-minus : goal.returns-clause-minus
returns-clause-minus c vs d g A B m h = minus_keeps (solutions vs d g A) (solutions vs d g B) m h
