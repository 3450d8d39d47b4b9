use Rattle.std.proofs.Common.{◌∙◌}
use Rattle.rdf_terms.proofs.MovingLemmas.{resolved_scheme}
use Rattle.rdf_terms.proofs.moving.anew.Goals as goal

pub of-layout-requires : goal.of-layout-requires
of-layout-requires c = rw (c.deref.ensures.value, c.in_ok-added.ensures) (resolved_scheme c.args.base.now c.args.reference.now c.requires)
