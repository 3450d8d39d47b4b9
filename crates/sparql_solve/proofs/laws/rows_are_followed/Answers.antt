use Rattle.sparql_solve.proofs.AskLemmas.{followed_parts}
use Rattle.sparql_solve.proofs.AskGroupLemmas.{group_followed}
use Rattle.sparql_solve.proofs.laws.rows_are_followed.Goals as goal

pub returns : goal.returns
returns c = record {
  parts = λ vs d g a ks F xs ys. followed_parts vs d g a ks F xs ys;
  group = λ vs s d l g a ea p. group_followed vs s d l g a ea p;
}
