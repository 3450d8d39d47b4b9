use Rattle.std.proofs.Common.{◌∙◌, ap, sym}
use Rattle.std.specs.List.{position}
use Rattle.rdf_terms.specs.Iri.{is_forbidden}
use Rattle.rdf_terms.proofs.AllowedLemmas.{forbidden_low}
use Rattle.rdf_terms.proofs.PastLemmas.{may_stop, past_some, past_none, stops_some, stops_none}
use Rattle.rdf_terms.proofs.cursor.Cursor.past_iri_run.Goals as goal

pub range_from-requires : goal.range_from-requires
range_from-requires c = λ _. may_stop is_forbidden forbidden_low c.self.inside.rest.now c.in-Some.stop (ap (position is_forbidden) (sym c.as_bytes.ensures.value) ∙ sym c.iri_stop.ensures.first ∙ c.in-Some.is)

pub returns-in-Some-clause-over : goal.returns-in-Some-clause-over
returns-in-Some-clause-over c =
    rw c.range_from.ensures.value
    (past_some is_forbidden forbidden_low c.self.inside.rest.now c.args.self.now c.in-Some.stop c.self.invariant c.self.view_is (ap (position is_forbidden) (sym c.as_bytes.ensures.value) ∙ sym c.iri_stop.ensures.first ∙ c.in-Some.is))

pub returns-in-None-clause-over : goal.returns-in-None-clause-over
returns-in-None-clause-over c =
    past_none is_forbidden forbidden_low c.self.inside.rest.now c.args.self.now c.self.invariant c.self.view_is (ap (position is_forbidden) (sym c.as_bytes.ensures.value) ∙ sym c.iri_stop.ensures.first ∙ c.in-None.is)

pub returns-in-Some-clause-up_to : goal.returns-in-Some-clause-up_to
returns-in-Some-clause-up_to c =
    rw c.range_from.ensures.value
    (stops_some is_forbidden forbidden_low c.self.inside.rest.now c.in-Some.stop (ap (position is_forbidden) (sym c.as_bytes.ensures.value) ∙ sym c.iri_stop.ensures.first ∙ c.in-Some.is))

pub returns-in-None-clause-up_to : goal.returns-in-None-clause-up_to
returns-in-None-clause-up_to c = stops_none is_forbidden
