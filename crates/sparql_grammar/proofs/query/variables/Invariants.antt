use Rattle.std.proofs.Common.{◌≤◌, length}
use Rattle.rdf_grammar.specs.Readings.{one, repeat}
use Rattle.rdf_grammar.proofs.CallerLemmas.{Grown}
use Rattle.sparql_terminals.specs.declared.terminal.Terminal.TheVariants as terminal
use Rattle.sparql_terminals.specs.Lexemes.{sees, value}
use Rattle.sparql_grammar.proofs.query.variables.Given as goal

abbrev pub invariant-loop-all : goal.invariant-loop-all
invariant-loop-all l = let p = one (value terminal.Variable) in record {
  grown : Grown (sees terminal.Variable) p (repeat (sees terminal.Variable) p l.initial.parser) l.initial.all l.all l.parser;
  shorter : length l.parser ≤ length l.initial.parser;
}

abbrev pub decreases-loop-all : goal.decreases-loop-all
decreases-loop-all l = length l.parser
