use Rattle.std.proofs.Common.{ap, ◌∙◌}
use Rattle.sparql_values.specs.Mapping.{Mapping}
use Rattle.sparql_solve.specs.Matching.{has_held}
use Rattle.sparql_solve.proofs.PartnerLemmas.{ref_held}
use Rattle.sparql_solve.proofs.partners.append_copies.Goals as goal

pub matches_row-requires : goal.matches_row-requires
matches_row-requires c =
    ap (λ (m : Mapping). has_held c.args.places.now m c.quad-item.result.now) c.in_ok-found.ensures
    ∙ ref_held c.args.places.now c.args.row.now c.args.quads.now c.loop-quad.quad-index c.quad-item.result c.loop-quad-test.true c.quad-item.is c.requires
