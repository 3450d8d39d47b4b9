use Rattle.std.proofs.Common.{sym, subst}
use Rattle.std.specs.Option.{option_copied}
use Rattle.rdf_session.specs.Inside.Staging.{TellsQueryFault}
use Rattle.rdf_session.specs.declared.fault.KeeperFault.{KeeperFault}
use Rattle.rdf_session.proofs.QueryLemmas.{no_query}
use Rattle.rdf_session.proofs.query.read_text.Goals as goal

pub returns-in-Err : goal.returns-in-Err
returns-in-Err c =
    let base = option_copied c.args.base in
    let fault = c.in-Err.fault in
    subst (λ (f : KeeperFault). TellsQueryFault base c.args.text.now f) (sym c.syntax_refusal.ensures) (no_query base c.args.text.now fault fault.kind c.in-Err.ensures)
