use Rattle.std.proofs.Common.{sym, subst}
use Rattle.rdf_session.specs.Inside.Staging.{TellsLineFault}
use Rattle.rdf_session.specs.declared.fault.KeeperFault.{KeeperFault}
use Rattle.rdf_session.proofs.FedLemmas.{line_refused}
use Rattle.rdf_session.proofs.load.read_in_lines.Goals as goal

pub returns-in-Err : goal.returns-in-Err
returns-in-Err c =
    let fault = c.in-Err.fault in
    subst (λ (f : KeeperFault). TellsLineFault c.args.format c.args.text.now f) (sym c.line_refusal.ensures) (line_refused c.args.format c.args.text.now fault fault.kind c.in-Err.ensures)
