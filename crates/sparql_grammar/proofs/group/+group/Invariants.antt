use Rattle.std.proofs.Common.{◌≤◌, ◌+◌, ◌*◌, length}
use Rattle.rdf_grammar.specs.Steps.{◌>>◌}
use Rattle.rdf_grammar.specs.Readings.{one, repeat}
use Rattle.rdf_grammar.proofs.CallerLemmas.{Grown}
use Rattle.sparql_terminals.specs.declared.terminal.Terminal.TheVariants as terminal
use Rattle.sparql_terminals.specs.Lexemes.{sees, the}
use Rattle.sparql_grammar.specs.GroupReading.{group_within, in_filter}
use Rattle.sparql_grammar.specs.Reading.{in_data}
use Rattle.sparql_grammar.proofs.GroupTurns.{Filled}
use Rattle.sparql_grammar.proofs.group.+group.Given as goal

-- the functions in the order in which they call one another, for as many groups as may be open
abbrev pub decreases-group : goal.decreases-group
decreases-group l = 10 * l.depth

abbrev pub decreases-group_or_union : goal.decreases-group_or_union
decreases-group_or_union l = 10 * l.depth + 1

abbrev pub decreases-graph_pattern : goal.decreases-graph_pattern
decreases-graph_pattern l = 10 * l.depth + 2

abbrev pub decreases-pattern : goal.decreases-pattern
decreases-pattern l = 10 * l.depth + 3

abbrev pub decreases-pattern_or_filter : goal.decreases-pattern_or_filter
decreases-pattern_or_filter l = 10 * l.depth + 4

abbrev pub decreases-put_pattern : goal.decreases-put_pattern
decreases-put_pattern l = 10 * l.depth + 5

abbrev pub decreases-contents : goal.decreases-contents
decreases-contents l = 10 * l.depth + 6

abbrev pub decreases-group_graph_pattern : goal.decreases-group_graph_pattern
decreases-group_graph_pattern l = 10 * l.depth + 7

abbrev pub invariant-group_or_union-loop-groups : goal.invariant-group_or_union-loop-groups
invariant-group_or_union-loop-groups l = let p = one (the terminal.Union >> group_within l.depth) in record {
  grown : Grown (sees terminal.Union) p (repeat (sees terminal.Union) p l.initial.parser) l.initial.groups l.groups l.parser;
  shorter : length l.parser ≤ length l.initial.parser;
}

abbrev pub decreases-group_or_union-loop-groups : goal.decreases-group_or_union-loop-groups
decreases-group_or_union-loop-groups l = length l.parser

abbrev pub invariant-contents-loop-parser : goal.invariant-contents-loop-parser
invariant-contents-loop-parser l = record {
  filled : Filled in_data in_filter (group_within l.depth) l.initial.parser l.initial.body l.body l.parser;
  shorter : length l.parser ≤ length l.initial.parser;
}

abbrev pub decreases-contents-loop-parser : goal.decreases-contents-loop-parser
decreases-contents-loop-parser l = length l.parser
