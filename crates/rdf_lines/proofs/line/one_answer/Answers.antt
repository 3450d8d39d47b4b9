use Rattle.rdf_lines.proofs.LineLaws.{one_answer}
use Rattle.rdf_lines.proofs.line.one_answer.Goals as goal

pub returns : goal.returns
returns c = one_answer
