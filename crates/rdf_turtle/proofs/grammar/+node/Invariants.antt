use Rattle.std.proofs.Common.{◌≤◌, ◌+◌, ◌*◌, length}
use Rattle.rdf_turtle.specs.declared.terminal.Terminal.TheVariants as terminal
use Rattle.rdf_grammar.specs.Steps.{◌>>◌}
use Rattle.rdf_grammar.specs.Terminals.{maybe_behind}
use Rattle.rdf_turtle.specs.Terminals.{same_terminal}
use Rattle.rdf_turtle.specs.Lexemes.{sees, the}
use Rattle.rdf_grammar.specs.Readings.{one, repeat}
use Rattle.rdf_turtle.specs.Inside.Reading as spec
use Rattle.rdf_grammar.proofs.CallerLemmas.{Grown}
use Rattle.rdf_turtle.proofs.grammar.+node.Given as goal

-- the functions in the order in which they call one another, for as many brackets as may be open
abbrev pub decreases-node : goal.decreases-node
decreases-node l = 10 * l.depth

abbrev pub decreases-objects : goal.decreases-objects
decreases-objects l = 10 * l.depth + 1

abbrev pub decreases-property : goal.decreases-property
decreases-property l = 10 * l.depth + 2

abbrev pub decreases-optional_property : goal.decreases-optional_property
decreases-optional_property l = 10 * l.depth + 3

abbrev pub decreases-predicate_object_list : goal.decreases-predicate_object_list
decreases-predicate_object_list l = 10 * l.depth + 4

abbrev pub decreases-optional_predicate_object_list : goal.decreases-optional_predicate_object_list
decreases-optional_predicate_object_list l = 10 * l.depth + 5

abbrev pub decreases-collection : goal.decreases-collection
decreases-collection l = 10 * l.depth + 6

abbrev pub decreases-bracketed : goal.decreases-bracketed
decreases-bracketed l = 10 * l.depth + 7

abbrev pub decreases-subject : goal.decreases-subject
decreases-subject l = 10 * l.depth + 8

abbrev pub decreases-object : goal.decreases-object
decreases-object l = 10 * l.depth + 9

abbrev pub invariant-objects-loop-all : goal.invariant-objects-loop-all
invariant-objects-loop-all l = let p = one (the terminal.Comma >> spec.node l.depth) in record {
  grown : Grown (sees terminal.Comma) p (repeat (sees terminal.Comma) p l.initial.parser) l.initial.all l.all l.parser;
  shorter : length l.parser ≤ length l.initial.parser;
}

abbrev pub decreases-objects-loop-all : goal.decreases-objects-loop-all
decreases-objects-loop-all l = length l.parser

abbrev pub invariant-predicate_object_list-loop-parser : goal.invariant-predicate_object_list-loop-parser
invariant-predicate_object_list-loop-parser l = let p = maybe_behind same_terminal terminal.Semicolon spec.sees_verb (spec.property (spec.node l.depth)) in record {
  grown : Grown (sees terminal.Semicolon) p (repeat (sees terminal.Semicolon) p l.initial.parser) l.initial.all l.all l.parser;
  shorter : length l.parser ≤ length l.initial.parser;
}

abbrev pub decreases-predicate_object_list-loop-parser : goal.decreases-predicate_object_list-loop-parser
decreases-predicate_object_list-loop-parser l = length l.parser

abbrev pub invariant-collection-loop-items : goal.invariant-collection-loop-items
invariant-collection-loop-items l = let p = one (spec.node l.depth) in record {
  grown : Grown spec.sees_node p (repeat spec.sees_node p l.initial.parser) l.initial.items l.items l.parser;
  shorter : length l.parser ≤ length l.initial.parser;
}

abbrev pub decreases-collection-loop-items : goal.decreases-collection-loop-items
decreases-collection-loop-items l = length l.parser
