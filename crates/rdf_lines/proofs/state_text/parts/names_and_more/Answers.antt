use Rattle.rdf_lines.proofs.StatePartLemmas.{no_more_names}
use Rattle.rdf_lines.proofs.state_text.parts.names_and_more.Goals as goal

pub returns-in_default-2 : goal.returns-in_default-2
returns-in_default-2 c =
    let now = c.loop-name_and_more in
    no_more_names c.args.text.now now.names.items now.rest.now c.in-Some.name_and_more.now now.invariant.0 now.invariant.1 c.in-Some.ensures (rw c.in_default-2.is at c.in_ok-name.ensures)
