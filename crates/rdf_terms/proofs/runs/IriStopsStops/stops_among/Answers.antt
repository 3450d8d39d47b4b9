use Rattle.std.proofs.Common.{ℕ, eqb, leb, refl, arith}
use Rattle.rdf_terms.specs.Iri.{is_forbidden}
use Rattle.rdf_terms.proofs.LaneLemmas.{compared, either, mask_of_bytes}
use Rattle.rdf_terms.proofs.runs.IriStopsStops.stops_among.Goals as goal

pub returns : goal.returns
returns c =
    let v = c.args.bytes in
    let is = λ (y : ℕ). compared eqb v y c.fits-bytes.0 in
    mask_of_bytes _ is_forbidden v (omega (arith, c.fits-bytes.0)) c.fits-bytes.1
    (either _ _ v (either _ _ v (either _ _ v (either _ _ v (either _ _ v (either _ _ v (either _ _ v (either _ _ v (either _ _ v
    (compared leb v 32 c.fits-bytes.0) (is 60)) (is 62)) (is 123)) (is 124)) (is 125)) (is 92)) (is 94)) (is 34)) (is 96)) refl
