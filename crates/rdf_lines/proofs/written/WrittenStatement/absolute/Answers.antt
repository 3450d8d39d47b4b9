use Rattle.std.proofs.Common.{sym, ◌∙◌}
use Rattle.rdf_lines.proofs.StatementSteps.{back_relative, both_absolute}
use Rattle.rdf_lines.proofs.written.WrittenStatement.absolute.Goals as goal

pub returns-in_default-2 : goal.returns-in_default-2
returns-in_default-2 c = back_relative c.args.self _ _ c.in-Some.ensures (sym c.in_default-2.is ∙ c.in_ok-object.ensures)

pub returns : goal.returns
returns c = both_absolute c.args.self _ _ _ _ c.in-Some.ensures (sym c.in-Some-2.is ∙ c.in_ok-object.ensures)
