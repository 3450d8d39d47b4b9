use Rattle.std.specs.Option.{option_copied}
use Rattle.rdf_session.specs.declared.format.Format.TheVariants.{Turtle}
use Rattle.rdf_session.specs.Inside.Staging.{TellsFault}
use Rattle.rdf_session.proofs.BeginningLemmas.{begins_at, not_read, turtle_tells}
use Rattle.rdf_session.proofs.start.begin_in_turtle.Goals as goal

pub returns-in-Ok : goal.returns-in-Ok
returns-in-Ok c = begins_at Turtle (option_copied c.args.base) c.args.text.items c.in-Ok.quads.items c.started.result (rw c.as_slice.ensures.value at c.in-Ok.ensures) c.started.ensures

pub returns-in-Err : goal.returns-in-Err
returns-in-Err c =
    let base = option_copied c.args.base in
    not_read Turtle base c.args.text.items c.in-Err.fault (turtle_tells base c.args.text.items c.in-Err.fault (rw c.as_slice.ensures.value at c.in-Err.ensures))
