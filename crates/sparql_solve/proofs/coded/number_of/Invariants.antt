use Rattle.sparql_solve.proofs.CodedLemmas.{IsNumberTo}
use Rattle.sparql_solve.proofs.coded.number_of.Given as goal

abbrev pub invariant-loop-place : goal.invariant-loop-place
invariant-loop-place l = IsNumberTo l.number l.place l.text
