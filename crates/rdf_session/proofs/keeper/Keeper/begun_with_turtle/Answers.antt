use Rattle.std.proofs.Common.{ℕ, List, Option, subst}
use Rattle.std.specs.Prelude.{Ok, Err}
use Rattle.rdf_session.specs.Inside.Starting.{BeginsAt}
use Rattle.rdf_session.specs.declared.format.Format.TheVariants.{Turtle}
use Rattle.rdf_session.proofs.BeginningLemmas.{session_begins, session_refused}
use Rattle.rdf_session.proofs.keeper.Keeper.begun_with_turtle.Goals as goal

pub returns-in-Ok : goal.returns-in-Ok
returns-in-Ok c =
    let at_base = subst (λ (base : Option (List ℕ)). BeginsAt Turtle base c.args.text.items (Ok c.in-Ok.dataset)) c.as_ref.ensures.value c.in-Ok.ensures in
    session_begins Turtle c.args.base c.args.text.items c.in-Ok.dataset c.over.result at_base c.over.ensures

pub returns-in-Err : goal.returns-in-Err
returns-in-Err c =
    let at_base = subst (λ (base : Option (List ℕ)). BeginsAt Turtle base c.args.text.items (Err c.in-Err.fault)) c.as_ref.ensures.value c.in-Err.ensures in
    session_refused Turtle c.args.base c.args.text.items c.in-Err.fault at_base
