use Rattle.std.proofs.Common.{subst}
use Rattle.rdf_session.specs.FedStart.{FeedsOn, StopsFed}
use Rattle.rdf_session.proofs.FedLemmas.{begun_whole, stopped_whole}
use Rattle.rdf_session.proofs.keeper.Keeper.begun_with_lines.Goals as goal

pub returns-in-Ok : goal.returns-in-Ok
returns-in-Ok c =
    begun_whole c.new.result c.args.format c.args.base c.args.text.items c.new.ensures.fed c.new.ensures.format c.new.ensures.base_iri c.in-Ok.start c.end.result
    (subst (λ text. FeedsOn c.new.result text c.in-Ok.start) c.as_slice.ensures.value c.in-Ok.ensures) c.end.ensures

pub returns-in-Err : goal.returns-in-Err
returns-in-Err c =
    stopped_whole c.new.result c.args.format c.args.base c.args.text.items c.new.ensures.fed c.new.ensures.format c.new.ensures.base_iri c.in-Err.fault
    (subst (λ text. StopsFed c.new.result text c.in-Err.fault) c.as_slice.ensures.value c.in-Err.ensures)
