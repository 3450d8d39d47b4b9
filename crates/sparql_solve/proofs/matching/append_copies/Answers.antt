use Rattle.std.proofs.Common.{ap, ◌∙◌}
use Rattle.sparql_values.specs.Mapping.{Mapping}
use Rattle.sparql_solve.specs.Matching.{has_held}
use Rattle.sparql_solve.proofs.FitLemmas.{held_at}
use Rattle.sparql_solve.proofs.matching.append_copies.Goals as goal

pub matches_row-requires : goal.matches_row-requires
matches_row-requires c =
    ap (λ (m : Mapping). has_held c.args.places.now m c.quad-item.result) c.in_ok-found.ensures
    ∙ held_at c.args.places.now c.args.row.now c.args.quads.now c.loop-quad.quad-index c.quad-item.result c.loop-quad-test.true c.quad-item.is c.requires
