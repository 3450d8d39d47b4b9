use Rattle.std.proofs.Common.{sym, subst}
use Rattle.std.specs.Option.{option_copied}
use Rattle.rdf_session.specs.Inside.Staging.{TellsTurtleFault}
use Rattle.rdf_session.specs.declared.fault.KeeperFault.{KeeperFault}
use Rattle.rdf_session.proofs.RefusalLemmas.{refused}
use Rattle.rdf_session.proofs.load.read_in_turtle.Goals as goal

pub returns-in-Err : goal.returns-in-Err
returns-in-Err c =
    let base = option_copied c.args.base in
    let fault = c.in-Err.fault in
    subst (λ (f : KeeperFault). TellsTurtleFault base c.args.text.now f) (sym c.turtle_refusal.ensures) (refused base c.args.text.now fault fault.kind c.in-Err.ensures)
