use Rattle.std.proofs.Common.{◌∙◌, Some, ap, arith}
use Rattle.std.proofs.lemmas.Simd.{length-chunk}
use Rattle.rdf_terms.proofs.LaneLemmas.{lowest_is_first}
use Rattle.rdf_terms.proofs.StopLemmas.{place_is}
use Rattle.rdf_terms.proofs.runs.first_stop_at.Goals as goal
use lib.Count.{count_trailing_zeros}
use lib.Lanes.{chunk}

pub returns-clause-first : goal.returns-clause-first
returns-clause-first g c =
    let among = c.stops_among-among.ensures in
    let long = length-chunk c.args.front 16 c.args.text.now c.requires in
    ap (λ n. Some (count_trailing_zeros 64 n)) among ∙ lowest_is_first _ _ (omega arith) (omega (arith, among, c.if-among-eq0.false))

pub returns-clause-within : goal.returns-clause-within
returns-clause-within g c =
    let long = length-chunk c.args.front 16 c.args.text.now c.requires in
    omega (arith, long, place_is (g.S.Stops.ends c.args.stops.now) (chunk c.args.front 16 c.args.text.now) _ (returns-clause-first g c))
