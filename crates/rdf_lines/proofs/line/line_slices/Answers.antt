use Rattle.std.proofs.Common.{ap, subst, sym, ◌∙◌}
use Rattle.std.specs.Str.{chars}
use Rattle.rdf_lines.specs.Inside.Slices.{ReadsStatement}
use Rattle.rdf_lines.specs.Reading.{is_end}
use Rattle.rdf_lines.proofs.AnswerLemmas.{tells_statement}
use Rattle.rdf_lines.proofs.SliceLemmas.{said_slices}
use Rattle.rdf_lines.proofs.line.line_slices.Goals as goal

pub returns : goal.returns
returns c =
    let utf8 = c.in-Ok.ensures.cases in
    said_slices c.args.format c.args.line.now c.in-Ok.text.now c.new-start.result utf8.1 utf8.0 c.new-start.ensures (sym c.is_end.ensures ∙ c.if-is_end.false) c.statement_slices.result c.statement_slices.ensures
