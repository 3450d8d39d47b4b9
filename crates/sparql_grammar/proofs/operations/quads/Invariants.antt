use Rattle.std.proofs.Common.{◌≤◌, length}
use Rattle.rdf_grammar.specs.Readings.{repeat}
use Rattle.rdf_grammar.proofs.CallerLemmas.{Grown}
use Rattle.sparql_terminals.specs.Lexemes.{sees}
use Rattle.sparql_grammar.specs.OperationReading.{named_and_default}
use Rattle.sparql_grammar.specs.Reading.{node, triples_template}
use Rattle.sparql_terminals.specs.declared.terminal.Terminal.TheVariants.{Graph}
use Rattle.sparql_grammar.proofs.operations.quads.Given as goal

abbrev pub invariant-loop-blocks : goal.invariant-loop-blocks
invariant-loop-blocks l = let p = named_and_default (triples_template (node 100)) (triples_template (node 99)) in record {
  grown : Grown (sees Graph) p (repeat (sees Graph) p l.initial.parser) l.initial.blocks l.blocks l.parser;
  shorter : length l.parser ≤ length l.initial.parser;
}

abbrev pub decreases-loop-blocks : goal.decreases-loop-blocks
decreases-loop-blocks l = length l.parser
