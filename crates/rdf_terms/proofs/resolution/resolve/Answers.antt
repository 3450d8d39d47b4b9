use Rattle.std.proofs.Common.{◌≡◌, ◌∙◌, false, List, ℕ, Some, subst, rules}
use Rattle.std.specs.Option.{option_copied}
use Rattle.rdf_terms.specs.Iri.{has_scheme}
use Rattle.rdf_terms.specs.Resolution.{ResolvesTo}
use Rattle.rdf_terms.proofs.ResolutionLemmas.{means_from}
use Rattle.rdf_terms.proofs.resolution.resolve.Goals as goal

pub returns-clause-value : goal.returns-clause-value
returns-clause-value c =
    let base : option_copied c.args.base ≡ Some c.in-Some.base.now = search rules in
    let relative : has_scheme c.args.reference.now ≡ false = search rules in
    means_from (option_copied c.args.base) c.in-Some.base.now c.args.reference.now c.in_ok-resolved.field-0 base relative
    (subst (λ (b : List ℕ). ResolvesTo b c.args.reference.now c.in_ok-resolved.field-0) (c.as_bytes.ensures.value ∙ c.as_str.ensures.value) c.in_ok-resolved.ensures.value)
