use Rattle.std.proofs.Common.{◌∙◌, ap, sym}
use Rattle.std.proofs.lemmas.Bool.{ltb-true}
use Rattle.std.specs.List.{position}
use Rattle.rdf_terms.specs.Runs.{ends_run}
use Rattle.rdf_terms.proofs.PastLemmas.{ends_low, may_stop, past_some, past_none, stops_some, stops_none}
use Rattle.rdf_terms.proofs.cursor.Cursor.past_string_run.Goals as goal

pub range_from-requires : goal.range_from-requires
range_from-requires c = λ _. may_stop (ends_run c.args.quote) (ends_low c.args.quote (ltb-true c.args.quote 128 (sym c.is_ascii.ensures ∙ c.if-not-is_ascii.false))) c.self.inside.rest.now c.in-Some.stop (ap (position (ends_run c.args.quote)) (sym c.as_bytes.ensures.value) ∙ sym c.string_stop.ensures.first ∙ c.in-Some.is)

pub returns-in-Some-clause-over : goal.returns-in-Some-clause-over
returns-in-Some-clause-over c =
    rw c.range_from.ensures.value
    (past_some (ends_run c.args.quote) (ends_low c.args.quote (ltb-true c.args.quote 128 (sym c.is_ascii.ensures ∙ c.if-not-is_ascii.false))) c.self.inside.rest.now c.args.self.now c.in-Some.stop c.self.invariant c.self.view_is (ap (position (ends_run c.args.quote)) (sym c.as_bytes.ensures.value) ∙ sym c.string_stop.ensures.first ∙ c.in-Some.is))

pub returns-in-None-clause-over : goal.returns-in-None-clause-over
returns-in-None-clause-over c =
    past_none (ends_run c.args.quote) (ends_low c.args.quote (ltb-true c.args.quote 128 (sym c.is_ascii.ensures ∙ c.if-not-is_ascii.false))) c.self.inside.rest.now c.args.self.now c.self.invariant c.self.view_is (ap (position (ends_run c.args.quote)) (sym c.as_bytes.ensures.value) ∙ sym c.string_stop.ensures.first ∙ c.in-None.is)

pub returns-in-Some-clause-up_to : goal.returns-in-Some-clause-up_to
returns-in-Some-clause-up_to c low =
    rw c.range_from.ensures.value
    (stops_some (ends_run c.args.quote) (ends_low c.args.quote low) c.self.inside.rest.now c.in-Some.stop (ap (position (ends_run c.args.quote)) (sym c.as_bytes.ensures.value) ∙ sym c.string_stop.ensures.first ∙ c.in-Some.is))

pub returns-in-None-clause-up_to : goal.returns-in-None-clause-up_to
returns-in-None-clause-up_to c low = stops_none (ends_run c.args.quote)
