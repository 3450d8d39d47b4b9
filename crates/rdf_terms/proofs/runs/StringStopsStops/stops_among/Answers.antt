use Rattle.std.proofs.Common.{ℕ, Bool, true, false, ◌≡◌, ◌||◌, eqb, refl, arith}
use Rattle.std.proofs.lemmas.Simd.{Each1-all}
use Rattle.rdf_terms.specs.Runs.{ends_run}
use Rattle.rdf_terms.proofs.LaneLemmas.{compared, either, mask_of}
use Rattle.rdf_terms.proofs.runs.StringStopsStops.stops_among.Goals as goal

regrouped : (a b c d : Bool) → (((a || b) || c) || d) ≡ (a || ((b || c) || d))
regrouped true b c d = refl
regrouped false b c d = refl

pub returns : goal.returns
returns c =
    let v = c.args.bytes in
    let quote = c.args.self.now.quote in
    let is = λ (y : ℕ). compared eqb v y c.fits-bytes.0 in
    mask_of _ (ends_run quote) v (omega (arith, c.fits-bytes.0)) (Each1-all _ (λ x. regrouped (eqb x 92) (eqb x quote) (eqb x 10) (eqb x 13)) v)
    (either _ _ v (either _ _ v (either _ _ v (is 92) (is quote)) (is 10)) (is 13))
