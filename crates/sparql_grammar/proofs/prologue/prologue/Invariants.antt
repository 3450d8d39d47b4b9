use Rattle.std.proofs.Common.{◌≤◌, length}
use Rattle.rdf_grammar.specs.Readings.{one, repeat}
use Rattle.rdf_grammar.proofs.CallerLemmas.{Grown}
use Rattle.sparql_grammar.specs.PrologueReading.{declaration, sees_declaration}
use Rattle.sparql_grammar.proofs.prologue.prologue.Given as goal

abbrev pub invariant-loop-all : goal.invariant-loop-all
invariant-loop-all l = let p = one declaration in record {
  grown : Grown sees_declaration p (repeat sees_declaration p l.initial.parser) l.initial.all l.all l.parser;
  shorter : length l.parser ≤ length l.initial.parser;
}

abbrev pub decreases-loop-all : goal.decreases-loop-all
decreases-loop-all l = length l.parser
