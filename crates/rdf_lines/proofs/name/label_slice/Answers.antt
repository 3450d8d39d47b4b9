use Rattle.std.proofs.Common.{sym}
use Rattle.rdf_lines.proofs.BlankLabelLemmas.{label_greedy}
use Rattle.rdf_lines.proofs.name.label_slice.Goals as goal

pub text_up_to-requires : goal.text_up_to-requires
text_up_to-requires c =
    let s = label_greedy.sound c.in_ok-name.name c.in_ok-rest.rest (sym c.in_ok-rest.ensures) in
    (s.0, s.1)
