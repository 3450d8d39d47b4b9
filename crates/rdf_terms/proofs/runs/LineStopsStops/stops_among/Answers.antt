use Rattle.std.proofs.Common.{ℕ, eqb, refl, arith}
use Rattle.std.proofs.lemmas.Simd.{Each1-all}
use Rattle.rdf_terms.specs.LineEnds.{is_line_end}
use Rattle.rdf_terms.proofs.LaneLemmas.{compared, either, mask_of}
use Rattle.rdf_terms.proofs.runs.LineStopsStops.stops_among.Goals as goal

pub returns : goal.returns
returns c =
    let v = c.args.bytes in
    let is = λ (y : ℕ). compared eqb v y c.fits-bytes.0 in
    mask_of _ is_line_end v (omega (arith, c.fits-bytes.0)) (Each1-all _ (λ x. refl) v) (either _ _ v (is 10) (is 13))
