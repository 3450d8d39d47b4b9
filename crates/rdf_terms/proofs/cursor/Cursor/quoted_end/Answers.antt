use Rattle.std.proofs.Common.{rules, ◌≡◌, None, sym, ◌∙◌, refl}
use Rattle.rdf_terms.specs.Reading.{quoted_at, quoted_body_at, string_character_at}
use Rattle.rdf_terms.specs.Runs.{ends_run}
use Rattle.rdf_terms.proofs.QuotedLemmas.{string_one, string_character-run}
use Rattle.rdf_terms.proofs.LoopLemmas.{place_goes_on, place_goes_past, place_fails, place_done}
use Rattle.rdf_terms.proofs.PastLemmas.{one_behind}
use Rattle.rdf_terms.proofs.cursor.Cursor.quoted_end.Goals as goal

pub returns-in-Some : goal.returns-in-Some
unfolding quoted_at quoted_body_at
returns-in-Some c =
    rw (sym c.in_ok-rest.ensures) (place_done (string_character_at c.args.quote) c.args.quote c.past_string_run-stop.result c.in-Some.behind (sym c.in-Some.ensures) ∙ (place_goes_past (string_character_at c.args.quote) c.args.quote (string_one c.args.quote (λ e. c.requires (sym e))) (ends_run c.args.quote) (string_character-run c.args.quote) c.loop-behind.rest c.past_string_run-stop.result c.past_string_run-stop.ensures.over ∙ c.loop-behind.invariant))

pub returns-in_err-behind : goal.returns-in_err-behind
unfolding quoted_at quoted_body_at
returns-in_err-behind c =
    let none : c.from_residual-in_err-behind.result ≡ None = search (rules, c.from_residual-in_err-behind.ensures) in
    rw none (rw (sym c.in_ok-rest.ensures) (place_fails (string_character_at c.args.quote) c.args.quote c.past_string_run-stop.result (sym c.in_err-behind.ensures) (sym c.in_default.ensures) ∙ (place_goes_past (string_character_at c.args.quote) c.args.quote (string_one c.args.quote (λ e. c.requires (sym e))) (ends_run c.args.quote) (string_character-run c.args.quote) c.loop-behind.rest c.past_string_run-stop.result c.past_string_run-stop.ensures.over ∙ c.loop-behind.invariant)))

pub loop-behind-smaller : goal.loop-behind-smaller
loop-behind-smaller c =
    one_behind (string_character_at c.args.quote) c.args.quote (string_one c.args.quote (λ e. c.requires (sym e))) (ends_run c.args.quote) c.loop-behind.rest c.past_string_run-stop.result c.in_ok-behind.field-0-0 c.in_ok-behind.behind c.past_string_run-stop.ensures.over (sym c.in_ok-behind.ensures)

pub loop-behind-preserved : goal.loop-behind-preserved
unfolding quoted_body_at
loop-behind-preserved c =
    place_goes_on (string_character_at c.args.quote) c.args.quote (string_one c.args.quote (λ e. c.requires (sym e))) c.past_string_run-stop.result c.in_ok-behind.field-0-0 c.in_ok-behind.behind (sym c.in_ok-behind.ensures) ∙ (place_goes_past (string_character_at c.args.quote) c.args.quote (string_one c.args.quote (λ e. c.requires (sym e))) (ends_run c.args.quote) (string_character-run c.args.quote) c.loop-behind.rest c.past_string_run-stop.result c.past_string_run-stop.ensures.over ∙ c.loop-behind.invariant)

pub returns-in_err-rest : goal.returns-in_err-rest
unfolding quoted_at
returns-in_err-rest c =
    let none : c.from_residual.result ≡ None = search (rules, c.from_residual.ensures) in
    rw none (rw (sym c.in_err-rest.ensures) refl)
