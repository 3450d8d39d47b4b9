use Rattle.std.proofs.Common.{◌≡◌, false, refl, rules, Some}
use Rattle.rdf_terms.specs.Iri.{has_scheme}
use Rattle.rdf_terms.proofs.ResolutionLemmas.{means_from}
use Rattle.rdf_terms.proofs.base.Base.move_to.Goals as goal

pub returns-clause-value : goal.returns-clause-value
returns-clause-value c =
    let relative : has_scheme c.args.reference.now ≡ false = search rules in
    means_from (Some c.args.self.now) c.args.self.now c.args.reference.now c.move_by.new.self refl relative c.in_ok-move_by.ensures.value
