use Rattle.std.proofs.Common.{arith, sym}
use Rattle.rdf_grammar.proofs.CallerLemmas.{grown_starts, grown_on, one_reads}
use Rattle.sparql_grammar.specs.GroupReading.{whole_group}
use Rattle.sparql_grammar.specs.OperationReading.{part}
use Rattle.sparql_grammar.specs.Reading.{node, triples_template}
use Rattle.sparql_grammar.proofs.operations.request.Goals as goal

pub loop-all-init : goal.loop-all-init
loop-all-init c = rw c.new-all.ensures record { grown = grown_starts _ _ _ _; shorter = omega arith }

pub loop-all-preserved : goal.loop-all-preserved
loop-all-preserved c = record {
  grown = grown_on _ _ _ c.loop-all.invariant.grown (sym c.loop-all-test.ensures) (one_reads (part (triples_template (node 100)) (triples_template (node 99)) whole_group) _ _ _ c.in_ok-part.ensures.reads) c.in_ok-part.ensures.shorter c.in_ok-push.ensures.ok;
  shorter = omega (arith, c.in_ok-part.ensures.shorter);
}
