use Rattle.std.proofs.Common.{rules, ◌≡◌, None, sym, ◌∙◌, refl}
use Rattle.rdf_terms.specs.Iri.{is_forbidden}
use Rattle.rdf_terms.specs.Reading.{iri_at, iri_body_at, iri_character_at}
use Rattle.rdf_terms.proofs.QuotedLemmas.{iri_one, iri_character-plain}
use Rattle.rdf_terms.proofs.LoopLemmas.{place_goes_on, place_goes_past, place_fails, place_done}
use Rattle.rdf_terms.proofs.PastLemmas.{one_behind}
use Rattle.rdf_terms.proofs.cursor.Cursor.iri_end.Goals as goal

pub returns-in-Some : goal.returns-in-Some
unfolding iri_at iri_body_at
returns-in-Some c =
    rw (sym c.in_ok-rest.ensures) (place_done iri_character_at 62 c.past_iri_run-stop.result c.in-Some.behind (sym c.in-Some.ensures) ∙ (place_goes_past iri_character_at 62 iri_one is_forbidden iri_character-plain c.loop-behind.rest c.past_iri_run-stop.result c.past_iri_run-stop.ensures.over ∙ c.loop-behind.invariant))

pub returns-in_err-behind : goal.returns-in_err-behind
unfolding iri_at iri_body_at
returns-in_err-behind c =
    let none : c.from_residual-in_err-behind.result ≡ None = search (rules, c.from_residual-in_err-behind.ensures) in
    rw none (rw (sym c.in_ok-rest.ensures) (place_fails iri_character_at 62 c.past_iri_run-stop.result (sym c.in_err-behind.ensures) (sym c.in_default.ensures) ∙ (place_goes_past iri_character_at 62 iri_one is_forbidden iri_character-plain c.loop-behind.rest c.past_iri_run-stop.result c.past_iri_run-stop.ensures.over ∙ c.loop-behind.invariant)))

pub loop-behind-smaller : goal.loop-behind-smaller
loop-behind-smaller c =
    one_behind iri_character_at 62 iri_one is_forbidden c.loop-behind.rest c.past_iri_run-stop.result c.in_ok-behind.field-0-0 c.in_ok-behind.behind c.past_iri_run-stop.ensures.over (sym c.in_ok-behind.ensures)

pub loop-behind-preserved : goal.loop-behind-preserved
unfolding iri_body_at
loop-behind-preserved c =
    place_goes_on iri_character_at 62 iri_one c.past_iri_run-stop.result c.in_ok-behind.field-0-0 c.in_ok-behind.behind (sym c.in_ok-behind.ensures) ∙ (place_goes_past iri_character_at 62 iri_one is_forbidden iri_character-plain c.loop-behind.rest c.past_iri_run-stop.result c.past_iri_run-stop.ensures.over ∙ c.loop-behind.invariant)

pub returns-in_err-rest : goal.returns-in_err-rest
unfolding iri_at
returns-in_err-rest c =
    let none : c.from_residual.result ≡ None = search (rules, c.from_residual.ensures) in
    rw none (rw (sym c.in_err-rest.ensures) refl)
