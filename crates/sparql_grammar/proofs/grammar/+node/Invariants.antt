use Rattle.std.proofs.Common.{◌≤◌, ◌+◌, ◌*◌, length}
use Rattle.sparql_terminals.specs.declared.terminal.Terminal.TheVariants as terminal
use Rattle.rdf_grammar.specs.Steps.{◌>>◌}
use Rattle.rdf_grammar.specs.Terminals.{maybe_behind}
use Rattle.sparql_terminals.specs.Terminals.{same_terminal}
use Rattle.sparql_terminals.specs.Lexemes.{sees, the}
use Rattle.rdf_grammar.specs.Readings.{one, repeat}
use Rattle.sparql_grammar.specs.Reading as spec
use Rattle.rdf_grammar.proofs.CallerLemmas.{Grown}
use Rattle.sparql_grammar.proofs.grammar.+node.Given as goal

-- the functions in the order in which they call one another, for as many brackets as may be open
abbrev pub decreases-node : goal.decreases-node
decreases-node l = 10 * l.depth

abbrev pub decreases-objects : goal.decreases-objects
decreases-objects l = 10 * l.depth + 1

abbrev pub decreases-property : goal.decreases-property
decreases-property l = 10 * l.depth + 2

abbrev pub decreases-optional_property : goal.decreases-optional_property
decreases-optional_property l = 10 * l.depth + 3

abbrev pub decreases-property_list_not_empty : goal.decreases-property_list_not_empty
decreases-property_list_not_empty l = 10 * l.depth + 4

abbrev pub decreases-property_list : goal.decreases-property_list
decreases-property_list l = 10 * l.depth + 5

abbrev pub decreases-collection : goal.decreases-collection
decreases-collection l = 10 * l.depth + 6

abbrev pub decreases-bracketed : goal.decreases-bracketed
decreases-bracketed l = 10 * l.depth + 7

abbrev pub decreases-graph_node : goal.decreases-graph_node
decreases-graph_node l = 10 * l.depth + 8

abbrev pub invariant-objects-loop-all : goal.invariant-objects-loop-all
invariant-objects-loop-all l = let p = one (the terminal.Comma >> spec.node l.depth) in record {
  grown : Grown (sees terminal.Comma) p (repeat (sees terminal.Comma) p l.initial.parser) l.initial.all l.all l.parser;
  shorter : length l.parser ≤ length l.initial.parser;
}

abbrev pub decreases-objects-loop-all : goal.decreases-objects-loop-all
decreases-objects-loop-all l = length l.parser

abbrev pub invariant-property_list_not_empty-loop-parser : goal.invariant-property_list_not_empty-loop-parser
invariant-property_list_not_empty-loop-parser l = let p = maybe_behind same_terminal terminal.Semicolon spec.sees_verb (spec.property (spec.node l.depth)) in record {
  grown : Grown (sees terminal.Semicolon) p (repeat (sees terminal.Semicolon) p l.initial.parser) l.initial.all l.all l.parser;
  shorter : length l.parser ≤ length l.initial.parser;
}

abbrev pub decreases-property_list_not_empty-loop-parser : goal.decreases-property_list_not_empty-loop-parser
decreases-property_list_not_empty-loop-parser l = length l.parser

abbrev pub invariant-collection-loop-items : goal.invariant-collection-loop-items
invariant-collection-loop-items l = let p = one (spec.node l.depth) in record {
  grown : Grown spec.sees_node p (repeat spec.sees_node p l.initial.parser) l.initial.items l.items l.parser;
  shorter : length l.parser ≤ length l.initial.parser;
}

abbrev pub decreases-collection-loop-items : goal.decreases-collection-loop-items
decreases-collection-loop-items l = length l.parser
