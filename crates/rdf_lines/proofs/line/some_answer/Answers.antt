use Rattle.rdf_lines.proofs.LineLaws.{some_answer}
use Rattle.rdf_lines.proofs.line.some_answer.Goals as goal

pub returns : goal.returns
returns c = some_answer
