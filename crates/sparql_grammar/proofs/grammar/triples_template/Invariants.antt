use Rattle.std.proofs.Common.{◌≤◌, length}
use Rattle.sparql_terminals.specs.declared.terminal.Terminal.TheVariants as terminal
use Rattle.rdf_grammar.specs.Steps.{◌>>◌}
use Rattle.rdf_grammar.specs.Readings.{one, repeat}
use Rattle.rdf_grammar.proofs.CallerLemmas.{Grown}
use Rattle.sparql_terminals.specs.Lexemes.{the}
use Rattle.sparql_grammar.specs.Reading.{node, same_subject, sees_another}
use Rattle.sparql_grammar.proofs.grammar.triples_template.Given as goal

abbrev pub invariant-loop-parser : goal.invariant-loop-parser
invariant-loop-parser l = let p = one (the terminal.Dot >> same_subject (node l.depth)) in record {
  grown : Grown sees_another p (repeat sees_another p l.initial.parser) l.initial.all l.all l.parser;
  shorter : length l.parser ≤ length l.initial.parser;
}

abbrev pub decreases-loop-parser : goal.decreases-loop-parser
decreases-loop-parser l = length l.parser
