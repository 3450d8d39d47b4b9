use Rattle.std.proofs.Common.{rules, ◌≡◌, None, sym, ◌∙◌, arith}
use Rattle.rdf_terms.specs.Runs.{ends_run}
use Rattle.rdf_terms.proofs.CallerLemmas.{no_longer_past}
use Rattle.rdf_tokens.proofs.TokenLong.{long_shrinks, long_ends, long_fails, long_on, long_past}
use Rattle.rdf_tokens.proofs.quoted.long_body.Goals as goal

pub returns-in-Some : goal.returns-in-Some
returns-in-Some c =
    sym (long_ends c.args.quote c.past_string_run-stop.result c.in-Some.behind (sym c.in-Some.ensures))
    ∙ sym (long_past c.args.quote c.loop-behind.rest c.past_string_run-stop.result c.past_string_run-stop.ensures.over) ∙ c.loop-behind.invariant

pub returns-in_err-behind : goal.returns-in_err-behind
returns-in_err-behind c =
    let none : c.from_residual.result ≡ None = search (rules, c.from_residual.ensures) in
    rw none (sym (long_fails c.args.quote c.past_string_run-stop.result (sym c.in_err-behind.ensures) (sym c.in_default.ensures))
    ∙ sym (long_past c.args.quote c.loop-behind.rest c.past_string_run-stop.result c.past_string_run-stop.ensures.over) ∙ c.loop-behind.invariant)

pub loop-behind-smaller : goal.loop-behind-smaller
loop-behind-smaller c =
    omega (
      arith,
      long_shrinks c.past_string_run-stop.result c.in_ok-behind.field-0-0 c.in_ok-behind.behind (sym c.in_ok-behind.ensures),
      no_longer_past (ends_run c.args.quote) c.loop-behind.rest c.past_string_run-stop.result c.past_string_run-stop.ensures.over,
    )

pub loop-behind-preserved : goal.loop-behind-preserved
loop-behind-preserved c =
    sym (long_on c.args.quote c.past_string_run-stop.result c.in_ok-behind.field-0-0 c.in_ok-behind.behind (sym c.in_ok-behind.ensures) (sym c.in_default.ensures))
    ∙ sym (long_past c.args.quote c.loop-behind.rest c.past_string_run-stop.result c.past_string_run-stop.ensures.over) ∙ c.loop-behind.invariant
