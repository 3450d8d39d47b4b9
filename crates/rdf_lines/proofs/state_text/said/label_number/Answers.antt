use Rattle.std.proofs.Common.{◌∙◌, sym}
use Rattle.rdf_lines.proofs.StateLineLemmas.{number_back, tail_is}
use Rattle.rdf_lines.proofs.state_text.said.label_number.Goals as goal

pub returns-in-Some : goal.returns-in-Some
returns-in-Some c = λ n h e. number_back c.in-Some.digits.now n c.number.result c.number.ensures h (tail_is 98 98 _ c.in-Some.digits.now (sym e ∙ sym c.as_str.ensures.value ∙ sym c.as_bytes.ensures.value ∙ c.in-Some.ensures))
