use Rattle.std.proofs.lemmas.Result.{on_ok_weaker}
use Rattle.rdf_lines.proofs.StateWriteLemmas.{written_in_order}
use Rattle.rdf_lines.proofs.state_text.write.append_sorted_state.Goals as goal

pub returns-clause-ok : goal.returns-clause-ok
returns-clause-ok c =
    on_ok_weaker c.append_lines.result (λ lines.
    written_in_order c.args.out.now.items c.append_head.new.out.items c.append_name_lines.new.out.items c.append_lines.new.out.items
    c.args.next c.args.names.now c.args.quads.now c.in_ok-append_head.ensures.ok c.in_ok-append_name_lines.ensures.ok lines
    c.requires.names_rise c.requires.quads_rise) c.append_lines.ensures.ok
