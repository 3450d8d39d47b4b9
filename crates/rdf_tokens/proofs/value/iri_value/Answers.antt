use Rattle.std.proofs.Common.{ap, sym, ◌∙◌}
use Rattle.rdf_terms.specs.Reading.{iri_at}
use Rattle.rdf_tokens.proofs.ValueIris.{iri_value_by, no_iri}
use Rattle.rdf_tokens.proofs.value.iri_value.Goals as goal

pub returns-in-Some-2 : goal.returns-in-Some-2
returns-in-Some-2 c =
    let here = ap iri_at (sym (c.new-2.ensures ∙ c.as_str-2.ensures)) ∙ sym c.in_ok-reference.ensures ∙ c.in-Some-2.is in
    rw (iri_value_by c.args.slice.now c.in-Some-2.reference c.in-Some-2.field-0-1 here ∙ sym c.as_str-in-Some-2.ensures.value) c.new-in-Some-2.ensures

pub returns-in-None : goal.returns-in-None
returns-in-None c =
    rw (no_iri c.args.slice.now (ap iri_at (sym (c.new-2.ensures ∙ c.as_str-2.ensures)) ∙ sym c.in_ok-reference.ensures ∙ c.in-None.is)) c.new-in-None.ensures
