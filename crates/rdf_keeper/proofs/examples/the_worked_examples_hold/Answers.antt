use Rattle.std.proofs.Common.{refl}
use Rattle.rdf_keeper.proofs.ScriptLemmas.Examples.{nothing_answered, load_undone, load_twice, load_redone, mark_reached, committed, graph_shown, graph_committed, open_load, refused_first, stopped_at_once, history_cut}
use Rattle.rdf_keeper.proofs.examples.the_worked_examples_hold.Goals as goal

pub returns-clause-nothing_asked : goal.returns-clause-nothing_asked
returns-clause-nothing_asked c = refl

pub returns-clause-four_commands : goal.returns-clause-four_commands
returns-clause-four_commands c = refl

pub returns-clause-line_ends : goal.returns-clause-line_ends
returns-clause-line_ends c = refl

pub returns-clause-open_body : goal.returns-clause-open_body
returns-clause-open_body c = refl

pub returns-clause-end_and_space : goal.returns-clause-end_and_space
returns-clause-end_and_space c = refl

pub returns-clause-bad_commands : goal.returns-clause-bad_commands
returns-clause-bad_commands c = refl

pub returns-clause-whole_lines : goal.returns-clause-whole_lines
returns-clause-whole_lines c = refl

pub returns-clause-mark_names : goal.returns-clause-mark_names
returns-clause-mark_names c = (refl, refl)

pub returns-clause-reply_lines : goal.returns-clause-reply_lines
returns-clause-reply_lines c = (refl, refl)

pub returns-clause-nothing_answered : goal.returns-clause-nothing_answered
returns-clause-nothing_answered c = nothing_answered c.a_script_has_one_output.ensures.bytes

pub returns-clause-load_undone : goal.returns-clause-load_undone
returns-clause-load_undone c = load_undone c.a_script_has_one_output.ensures.bytes

pub returns-clause-load_twice : goal.returns-clause-load_twice
returns-clause-load_twice c = load_twice c.a_script_has_one_output.ensures.bytes

pub returns-clause-load_redone : goal.returns-clause-load_redone
returns-clause-load_redone c = load_redone c.a_script_has_one_output.ensures.bytes

pub returns-clause-mark_reached : goal.returns-clause-mark_reached
returns-clause-mark_reached c = mark_reached c.a_script_has_one_output.ensures.bytes

pub returns-clause-committed : goal.returns-clause-committed
returns-clause-committed c = committed c.a_script_has_one_output.ensures.bytes

pub returns-clause-graph_shown : goal.returns-clause-graph_shown
returns-clause-graph_shown c = graph_shown c.a_script_has_one_output.ensures.bytes

pub returns-clause-graph_committed : goal.returns-clause-graph_committed
returns-clause-graph_committed c = graph_committed c.a_script_has_one_output.ensures.bytes

pub returns-clause-open_load : goal.returns-clause-open_load
returns-clause-open_load c = open_load c.a_script_has_one_output.ensures.bytes

pub returns-clause-refused_first : goal.returns-clause-refused_first
returns-clause-refused_first c = refused_first c.a_script_has_one_output.ensures.bytes

pub returns-clause-stopped_at_once : goal.returns-clause-stopped_at_once
returns-clause-stopped_at_once c = stopped_at_once

pub returns-clause-history_cut : goal.returns-clause-history_cut
returns-clause-history_cut c = history_cut

pub returns-clause-blank_numbers : goal.returns-clause-blank_numbers
returns-clause-blank_numbers c = (refl, refl)
