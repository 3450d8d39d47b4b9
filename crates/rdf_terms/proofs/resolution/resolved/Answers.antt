use Rattle.std.proofs.Common.{◌≡◌, ℕ, false, List, ap, ◌∙◌}
use Rattle.rdf_terms.specs.Iri.{has_forbidden}
use Rattle.rdf_terms.specs.Rewriting.{resolved}
use Rattle.rdf_terms.proofs.CleanLemmas.{resolved_iri, scheme_from_iri}
use Rattle.rdf_terms.proofs.ResolutionLemmas.{resolves}
use Rattle.rdf_terms.proofs.resolution.resolved.Goals as goal

pub iri_of-requires : goal.iri_of-requires
iri_of-requires c =
    let allowed : has_forbidden c.as_bytes.result.now ≡ false = rw c.as_bytes.ensures.value c.requires.allowed in
    rw c.in_ok-text.ensures (resolved_iri c.args.base.now c.as_bytes.result.now c.requires.base c.as_bytes.ensures.utf8 allowed)

pub returns-clause-value : goal.returns-clause-value
returns-clause-value c =
    let e : c.in_ok-iri_of.field-0 ≡ resolved c.args.base.now c.args.reference.now =
    c.in_ok-iri_of.ensures ∙ c.in_ok-text.ensures ∙ ap (resolved c.args.base.now) c.as_bytes.ensures.value in
    rw e (resolves c.args.base.now c.args.reference.now (scheme_from_iri c.args.base.now c.requires.base))
