use Rattle.rdf_lines.proofs.HeldLemmas.{tells}
use Rattle.rdf_lines.proofs.held.read_lines.Goals as goal

pub returns-in-Err : goal.returns-in-Err
returns-in-Err c = tells c.args.format c.args.bytes.now _ c.in-Err.fault c.in-Err.fault.kind c.in-Err.ensures
