use Rattle.std.proofs.Common.{sym, ap, ◌∙◌}
use Rattle.std.specs.Char.{is_ascii_uppercase}
use Rattle.std.specs.List.{list_any}
use Rattle.rdf_terms.proofs.CallerLemmas.{tag_greedy}
use Rattle.rdf_lines.proofs.SuffixSlices.{tag_suffix}
use Rattle.rdf_lines.proofs.canonical.tag_end.Goals as goal

pub text_up_to-requires : goal.text_up_to-requires
text_up_to-requires c =
    let s = tag_greedy.sound c.args.name.now c.in_ok-rest.rest (sym c.in_ok-rest.ensures) in
    (s.0, s.1)

pub returns-else-has_capital : goal.returns-else-has_capital
returns-else-has_capital c =
    tag_suffix c.args.name.now c.in_ok-rest.rest (sym c.in_ok-rest.ensures)
    (sym (ap (list_any is_ascii_uppercase) (c.as_bytes.ensures.value ∙ c.text_up_to.ensures)) ∙ sym c.has_capital.ensures ∙ c.if-has_capital.false)
