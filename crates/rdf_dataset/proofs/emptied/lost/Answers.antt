use Rattle.std.proofs.Common.{ap, subst}
use Rattle.rdf_store.specs.Stored.{Stored}
use Rattle.rdf_dataset.specs.Inside.Emptied.{AreHeld, IsPart}
use Rattle.rdf_dataset.proofs.EmptiedLemmas.{lost_there, part_lost}
use Rattle.rdf_dataset.proofs.emptied.lost.Goals as goal

pub returns-clause-part : goal.returns-clause-part
returns-clause-part c quads test h = part_lost quads c.in_ok-store.store.quads _ test c.args.quad.now (subst (λ p. IsPart test p quads) c.in_ok-store.was h) (ap (λ (s : Stored). s.quads) c.remove.ensures.quads)

pub returns-clause-graphs : goal.returns-clause-graphs
returns-clause-graphs c quads h = lost_there c.in_ok-store.store quads c.args.quad.now _ c.remove.ensures.quads (subst (λ p. AreHeld p quads) c.in_ok-store.was h)
