use Rattle.std.proofs.Common.{◌≡◌, ℕ, List, false, refl, rules, subst, Some}
use Rattle.rdf_terms.specs.Iri.{has_scheme}
use Rattle.rdf_terms.specs.Resolution.{ResolvesTo}
use Rattle.rdf_terms.proofs.ResolutionLemmas.{means_from}
use Rattle.rdf_terms.proofs.base.Base.resolve.Goals as goal

pub returns-clause-value : goal.returns-clause-value
returns-clause-value c =
    let relative : has_scheme c.args.reference.now ≡ false = search rules in
    means_from (Some c.args.self.now) c.args.self.now c.args.reference.now c.in_ok-resolved.field-0 refl relative
    (subst (λ (b : List ℕ). ResolvesTo b c.args.reference.now c.in_ok-resolved.field-0) c.as_bytes.ensures.value c.in_ok-resolved.ensures.value)
