use Rattle.std.proofs.lemmas.Result.{on_ok_weaker}
use Rattle.rdf_lines.proofs.StateWriteLemmas.{written}
use Rattle.rdf_lines.proofs.state_text.write.append_state.Goals as goal

pub returns-clause-ok : goal.returns-clause-ok
returns-clause-ok c =
    let names = c.in_ok-append_names.ensures.ok in
    on_ok_weaker c.write_sorted.result (λ quads.
    written c.args.out.now.items c.append_head.new.out.items c.append_names.new.out.items c.write_sorted.new.out.items
    quads.0 c.args.next c.args.names.now names.0 c.args.quads.now
    c.in_ok-append_head.ensures.ok names.3 quads.2
    c.requires.names_once names.1 names.2 c.requires.quads_once quads.1) c.write_sorted.ensures.ok
