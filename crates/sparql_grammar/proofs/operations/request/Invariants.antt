use Rattle.std.proofs.Common.{◌≤◌, length}
use Rattle.rdf_grammar.specs.Readings.{one, repeat, is_more}
use Rattle.rdf_grammar.proofs.CallerLemmas.{Grown}
use Rattle.sparql_grammar.specs.GroupReading.{whole_group}
use Rattle.sparql_grammar.specs.OperationReading.{part}
use Rattle.sparql_grammar.specs.Reading.{node, triples_template}
use Rattle.sparql_grammar.proofs.operations.request.Given as goal

abbrev pub invariant-loop-all : goal.invariant-loop-all
invariant-loop-all l = let p = one (part (triples_template (node 100)) (triples_template (node 99)) whole_group) in record {
  grown : Grown is_more p (repeat is_more p l.initial.parser) l.initial.all l.all l.parser;
  shorter : length l.parser ≤ length l.initial.parser;
}

abbrev pub decreases-loop-all : goal.decreases-loop-all
decreases-loop-all l = length l.parser
