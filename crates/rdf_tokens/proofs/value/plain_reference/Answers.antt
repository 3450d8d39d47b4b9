use Rattle.std.proofs.Common.{ap, subst, sym, ◌∙◌}
use Rattle.std.specs.Str.{IsUtf8}
use Rattle.rdf_terms.specs.Iri.{has_forbidden}
use Rattle.rdf_tokens.proofs.ValueIris.{plain_is}
use Rattle.rdf_tokens.proofs.value.plain_reference.Goals as goal

pub returns-else-has_forbidden : goal.returns-else-has_forbidden
returns-else-has_forbidden c =
    plain_is c.args.text.now c.in_ok-reference.reference.now (subst IsUtf8 c.as_bytes.ensures.value c.as_bytes.ensures.utf8) c.in_ok-reference.ensures
    (ap has_forbidden (sym c.as_bytes.ensures.value) ∙ sym c.has_forbidden.ensures ∙ c.if-has_forbidden.false)
