use Rattle.rdf_lines.proofs.StateWriteLemmas.{headed}
use Rattle.rdf_lines.proofs.state_text.write.append_head.Goals as goal

pub returns-clause-ok : goal.returns-clause-ok
returns-clause-ok c =
    headed c.args.out.now.items c.extend_from_slice.new.self.items c.append_number.new.out.items c.push.new.self.items c.args.next
    c.in_ok-extend_from_slice.ensures.items c.in_ok-append_number.ensures.ok c.in_ok-push.ensures.items
