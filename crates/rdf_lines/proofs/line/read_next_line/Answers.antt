use Rattle.std.proofs.Common.{ap, sym, ◌∙◌}
use Rattle.rdf_lines.specs.Reading.{is_end, statement_at}
use Rattle.rdf_lines.proofs.AnswerLemmas.{tells_nothing, tells_syntax, tells_relative, tells_statement}
use Rattle.rdf_lines.proofs.line.read_next_line.Goals as goal

pub returns-then-is_end : goal.returns-then-is_end
returns-then-is_end c =
    let utf8 = c.in-Ok.ensures.cases in
    tells_nothing c.args.format c.args.line.now c.in-Ok.text.now utf8.1 utf8.0 (ap is_end (sym c.new-start.ensures) ∙ sym c.is_end.ensures ∙ c.if-is_end.true)

pub returns-in_default-2 : goal.returns-in_default-2
returns-in_default-2 c =
    let utf8 = c.in-Ok.ensures.cases in
    tells_syntax c.args.format c.args.line.now c.in-Ok.text.now utf8.1 utf8.0 (ap is_end (sym c.new-start.ensures) ∙ sym c.is_end.ensures ∙ c.if-is_end.false)
    (ap (statement_at c.args.format) (sym c.new-start.ensures) ∙ sym c.in_ok-written.ensures ∙ c.in_default-2.is)

pub returns-in-Some-2 : goal.returns-in-Some-2
returns-in-Some-2 c =
    let utf8 = c.in-Ok.ensures.cases in
    tells_statement c.args.format c.args.line.now c.in-Ok.text.now c.in-Some.written c.in-Some-2.statement utf8.1 utf8.0
    (ap is_end (sym c.new-start.ensures) ∙ sym c.is_end.ensures ∙ c.if-is_end.false)
    (ap (statement_at c.args.format) (sym c.new-start.ensures) ∙ sym c.in_ok-written.ensures ∙ c.in-Some.is)
    (sym c.in_ok-statement.ensures ∙ c.in-Some-2.is)

pub returns-in-None : goal.returns-in-None
returns-in-None c =
    let utf8 = c.in-Ok.ensures.cases in
    tells_relative c.args.format c.args.line.now c.in-Ok.text.now c.in-Some.written utf8.1 utf8.0
    (ap is_end (sym c.new-start.ensures) ∙ sym c.is_end.ensures ∙ c.if-is_end.false)
    (ap (statement_at c.args.format) (sym c.new-start.ensures) ∙ sym c.in_ok-written.ensures ∙ c.in-Some.is)
    (sym c.in_ok-statement.ensures ∙ c.in-None.is)
