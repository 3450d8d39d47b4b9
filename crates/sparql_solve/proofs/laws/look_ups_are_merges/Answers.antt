use Rattle.sparql_solve.proofs.BasicLemmas.{set_of_triples}
use Rattle.sparql_solve.proofs.UnderLemmas.{pairs_bag, looked_up_bag}
use Rattle.sparql_solve.proofs.laws.look_ups_are_merges.Goals as goal

pub returns : goal.returns
returns c = record {
  pairs = λ vs s d l g b m e. pairs_bag vs (d.quads g) (set_of_triples s g (d.quads g) (l.quads g)) b m e;
  merges = λ vs s d l g b m e. looked_up_bag vs (d.quads g) (set_of_triples s g (d.quads g) (l.quads g)) b m e;
}
