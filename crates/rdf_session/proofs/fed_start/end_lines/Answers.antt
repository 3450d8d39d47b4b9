use Rattle.rdf_session.specs.Documents.{of_lines}
use Rattle.rdf_session.proofs.BeginningLemmas.{begins_at, not_read}
use Rattle.rdf_session.proofs.FedLemmas.{of_lines-document, of_lines-fault}
use Rattle.rdf_session.proofs.fed_start.end_lines.Goals as goal

pub returns-in-Ok : goal.returns-in-Ok
returns-in-Ok c base text h =
    let format = c.args.lines.format in
    begins_at (of_lines format) base text c.take_last.new.quads c.into_dataset.result (of_lines-document format base text c.take_last.new.quads (c.in-Ok.ensures text h)) c.into_dataset.ensures

pub returns-in-Err : goal.returns-in-Err
returns-in-Err c base text h =
    let format = c.args.lines.format in not_read (of_lines format) base text c.in-Err.fault (of_lines-fault format base text c.in-Err.fault (c.in-Err.ensures text h))
