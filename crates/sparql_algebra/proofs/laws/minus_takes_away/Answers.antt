use Rattle.std.proofs.Common.{length, ap}
use Rattle.sparql_algebra.specs.Solutions.{basic_solutions, solutions}
use Rattle.std.specs.List.{count_by}
use Rattle.std.proofs.Common.{List, []}
use Rattle.sparql_values.specs.Mapping.{Mapping, same_mapping}
use Rattle.sparql_algebra.proofs.JoinLemmas.{empty_solutions}
use Rattle.sparql_algebra.proofs.MinusLemmas.{minus_adds_none, nothing_shared, shared_is_taken, empty_takes_none, minuses_append}
use Rattle.sparql_algebra.proofs.laws.minus_takes_away.Goals as goal

pub returns-clause-adds_none : goal.returns-clause-adds_none
returns-clause-adds_none c vs d g A B m = minus_adds_none (solutions vs d g A) (solutions vs d g B) m

pub returns-clause-nothing_shared : goal.returns-clause-nothing_shared
returns-clause-nothing_shared c vs d g A B m h = nothing_shared (solutions vs d g A) (solutions vs d g B) m h

pub returns-clause-shared : goal.returns-clause-shared
returns-clause-shared c vs d g A B m b h k l = shared_is_taken (solutions vs d g A) (solutions vs d g B) m b h k l

pub returns-clause-empty : goal.returns-clause-empty
returns-clause-empty c vs d g A m =
    empty_takes_none (length vs) (solutions vs d g A) (basic_solutions vs (d.quads g) (record { triples = []; hidden = 0 })) (empty_solutions vs (d.quads g)) m

pub returns-clause-of_union : goal.returns-clause-of_union
returns-clause-of_union c vs d g A B C m =
    ap (λ (xs : List Mapping). count_by (same_mapping m) xs) (minuses_append (solutions vs d g A) (solutions vs d g B) (solutions vs d g C))
