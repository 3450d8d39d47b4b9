use Rattle.rdf_lines.proofs.StatePartLemmas.{no_names_behind, no_quads_behind, parts_there}
use Rattle.rdf_lines.proofs.state_text.parts.read_parts.Goals as goal

pub returns-in_default-2 : goal.returns-in_default-2
returns-in_default-2 c = no_names_behind c.args.bytes.now c.in-Some.next c.in-Some.more.now c.in-Some.ensures.0 c.in-Some.ensures.1 (rw c.in_default-2.is at c.in_ok-names.ensures)

pub returns-in_default-3 : goal.returns-in_default-3
returns-in_default-3 c =
    no_quads_behind c.args.bytes.now c.in-Some.next c.in-Some.more.now c.in-Some-2.names.items c.in-Some-2.more.now c.in-Some.ensures.0 c.in-Some.ensures.1
    (rw c.in-Some-2.is at c.in_ok-names.ensures) (rw c.in_default-3.is at c.in_ok-quads.ensures)

pub returns : goal.returns
returns c =
    parts_there c.args.bytes.now c.in-Some.next c.in-Some.more.now c.in-Some-2.names.items c.in-Some-2.more.now c.in-Some-3.quads.items c.in-Some.ensures.0 c.in-Some.ensures.1
    (rw c.in-Some-2.is at c.in_ok-names.ensures) (rw c.in-Some-3.is at c.in_ok-quads.ensures)
