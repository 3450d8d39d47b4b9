use Rattle.rdf_lines.proofs.StateLineLemmas.{says_back, refused_no_quad}
use Rattle.rdf_lines.proofs.state_text.said.line_statement.Goals as goal

pub returns-in-Ok : goal.returns-in-Ok
returns-in-Ok c = λ q h e. says_back c.args.line.now c.in-Ok.statement q c.in-Ok.ensures h e

pub returns-in_default : goal.returns-in_default
returns-in_default c = λ q h e. absurd (refused_no_quad c.args.line.now c.in-Err.fault q c.in_default.not-NoMemory c.in-Err.ensures h e)
