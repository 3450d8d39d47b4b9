use Rattle.std.proofs.Common.{◌∙◌, ap, refl}
use Rattle.rdf_tokens.specs.Lines.{line_of}
use Rattle.rdf_turtle.proofs.DocumentLemmas.{name_tells, refused_tells}
use Rattle.rdf_turtle.proofs.document.told.Goals as goal

pub returns-in-Ok : goal.returns-in-Ok
returns-in-Ok c base same told =
    name_tells base c.args.based c.args.text.now c.args.kind c.in-Ok.start c.fault_at.result same told c.in-Ok.ensures c.fault_at.ensures.kind
    (λ some. c.fault_at.ensures.line some ∙ ap (λ t. line_of t c.in-Ok.start) c.as_bytes.ensures.value) c.fault_at.ensures.no_line

pub returns-in-Err : goal.returns-in-Err
returns-in-Err c base same told = refused_tells base c.args.text.now c.fault_at-in-Err.result c.fault_at-in-Err.ensures.kind (c.fault_at-in-Err.ensures.no_line refl)
