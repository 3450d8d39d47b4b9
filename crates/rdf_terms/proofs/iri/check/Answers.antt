use Rattle.std.proofs.Common.{◌≡◌, true, false, rules}
use Rattle.rdf_terms.specs.Iri.{has_scheme, has_forbidden}
use Rattle.rdf_terms.proofs.Utf8Lemmas.{iri_from}
use Rattle.rdf_terms.proofs.iri.check.Goals as goal

pub returns-clause-sound : goal.returns-clause-sound
returns-clause-sound c =
    let scheme : has_scheme c.args.text.now ≡ true = search rules in
    let allowed : has_forbidden c.args.text.now ≡ false = search rules in
    iri_from c.args.text.now c.utf8.text scheme allowed
