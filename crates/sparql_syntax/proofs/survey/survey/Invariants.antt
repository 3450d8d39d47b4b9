use Rattle.std.proofs.Common.{◌≡◌, length, None}
use Rattle.rdf_grammar.specs.declared.depth.Depth.TheVariants.{Open}
use Rattle.rdf_grammar.specs.Walks.{IsLow, first_fault, depth_behind}
use Rattle.sparql_terminals.specs.Terminals.{bracket, terminal_by}
use Rattle.sparql_syntax.specs.Survey.{left_out_behind}
use Rattle.sparql_syntax.proofs.survey.survey.Given as goal

abbrev pub invariant-loop-found : goal.invariant-loop-found
invariant-loop-found l = record {
  fault : first_fault l.initial.walk ≡ first_fault l.walk;
  out : left_out_behind None l.initial.walk ≡ left_out_behind l.left_out l.walk;
  depth : depth_behind terminal_by bracket (Open 0) l.initial.walk ≡ depth_behind terminal_by bracket l.depth l.walk;
  low : IsLow l.depth;
}

abbrev pub decreases-loop-found : goal.decreases-loop-found
decreases-loop-found l = length l.walk
