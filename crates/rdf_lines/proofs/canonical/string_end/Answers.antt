use Rattle.std.proofs.Common.{[], ◌∷◌, ◌++◌, ◌∙◌, ap, sym, ℕ, List}
use Rattle.std.specs.List.{flat_map}
use Rattle.rdf_terms.specs.Runs.{ends_run}
use Rattle.rdf_terms.specs.TermText.{escaped}
use Rattle.rdf_terms.proofs.CallerLemmas.{expect_sound, no_longer_past}
use Rattle.rdf_lines.proofs.CanonicalLemmas.{escape_falls, over_escape, over_run}
use Rattle.rdf_lines.proofs.canonical.string_end.Goals as goal

pub loop-behind-init : goal.loop-behind-init
loop-behind-init c = ([], expect_sound 34 c.args.at.now c.in_ok-rest.rest (sym c.in_ok-rest.ensures))

pub returns-in-Some : goal.returns-in-Some
returns-in-Some c =
    let inv = c.loop-behind.invariant in
    let run = over_run c.args.at.now inv.0 c.loop-behind.rest c.past_string_run-stop.result inv.1 c.past_string_run-stop.ensures.over in
    (run.0, run.1 ∙ ap (λ (t : List ℕ). 34 ∷ (flat_map escaped run.0 ++ t)) (expect_sound 34 c.past_string_run-stop.result c.in-Some.behind (sym c.in-Some.ensures)))

pub loop-behind-smaller : goal.loop-behind-smaller
loop-behind-smaller c =
    let is = c.in_ok-rest-2.ensures in
    escape_falls c.loop-behind.rest c.past_string_run-stop.result c.in_ok-escape.escape c.in_ok-rest-2.rest is.0
    (no_longer_past (ends_run 34) c.loop-behind.rest c.past_string_run-stop.result c.past_string_run-stop.ensures.over)
    (expect_sound 92 c.past_string_run-stop.result c.in_ok-escape.escape (sym c.in_ok-escape.ensures)) is.1

pub loop-behind-preserved : goal.loop-behind-preserved
loop-behind-preserved c =
    let inv = c.loop-behind.invariant in
    let is = c.in_ok-rest-2.ensures in
    let run = over_run c.args.at.now inv.0 c.loop-behind.rest c.past_string_run-stop.result inv.1 c.past_string_run-stop.ensures.over in
    over_escape c.args.at.now run.0 c.past_string_run-stop.result c.in_ok-escape.escape c.in_ok-rest-2.rest is.0 run.1
    (expect_sound 92 c.past_string_run-stop.result c.in_ok-escape.escape (sym c.in_ok-escape.ensures)) is.1
