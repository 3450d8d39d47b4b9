use Rattle.std.proofs.Common.{sym, ◌∙◌}
use Rattle.rdf_lines.proofs.CanonicalLemmas.{iri_leads, reads_iri}
use Rattle.rdf_lines.proofs.canonical.canonical_iri.Goals as goal

pub text_up_to-text-requires : goal.text_up_to-text-requires
text_up_to-text-requires c =
    iri_leads c.args.at.now c.in_ok-body.body c.past_iri_run-stop.result c.in_ok-rest.rest (sym c.in_ok-body.ensures) c.past_iri_run-stop.ensures.over (sym c.in_ok-rest.ensures)

pub returns-then-begins_with_scheme : goal.returns-then-begins_with_scheme
returns-then-begins_with_scheme c =
    reads_iri c.args.at.now c.in_ok-body.body c.past_iri_run-stop.result c.in_ok-rest.rest c.text_up_to-text.result.now (sym c.in_ok-body.ensures) c.past_iri_run-stop.ensures.over (sym c.in_ok-rest.ensures)
    c.text_up_to-text.ensures (λ iri e. c.begins_with_scheme.ensures iri (c.as_bytes.ensures.value ∙ e) c.if-begins_with_scheme.true)
