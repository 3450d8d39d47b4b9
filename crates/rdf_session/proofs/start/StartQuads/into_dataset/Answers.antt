use Rattle.std.proofs.Common.{List, subst}
use Rattle.std.specs.Prelude.{Ok}
use Rattle.rdf_terms.specs.Quad.{QuadParts}
use Rattle.rdf_session.specs.Inside.Starting.{Starts}
use Rattle.rdf_session.proofs.LoadLemmas.{counted_below}
use Rattle.rdf_session.proofs.BeginningLemmas.{starts}
use Rattle.rdf_session.proofs.start.StartQuads.into_dataset.Goals as goal

pub into_dataset-requires-clause-below : goal.into_dataset-requires-clause-below
into_dataset-requires-clause-below c = counted_below c.self.inside.quads _ c.self.invariant c.if-self-gt-LAST_NUMBER.false

pub returns : goal.returns
returns c =
    subst (λ (quads : List QuadParts). Starts quads (Ok c.in_ok-into_dataset.field-0)) c.self.view_is
    (starts c.self.inside.quads _ c.in_ok-into_dataset.field-0 c.self.invariant c.if-self-gt-LAST_NUMBER.false c.in_ok-into_dataset.ensures)
