use Rattle.rdf_lines.proofs.SliceLemmas.{both_slices}
use Rattle.rdf_lines.proofs.slices.statement_slices.Goals as goal

pub returns : goal.returns
returns c =
    both_slices c.args.format c.args.at.now c.in_ok-subject.rest
    (record { subject = c.in_ok-subject.subject; predicate = c.in_ok-subject.predicate; object = c.in_ok-object.object; graph = c.in_ok-object.graph })
    c.in_ok-subject.ensures c.in_ok-object.ensures
