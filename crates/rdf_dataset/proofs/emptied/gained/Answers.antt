use Rattle.std.proofs.Common.{ap, subst}
use Rattle.rdf_store.specs.Stored.{Stored}
use Rattle.rdf_dataset.specs.Inside.Emptied.{IsPart}
use Rattle.rdf_dataset.proofs.EmptiedLemmas.{part_gained}
use Rattle.rdf_dataset.proofs.emptied.gained.Goals as goal

pub returns-in-Ok : goal.returns-in-Ok
returns-in-Ok c quads test t h = part_gained quads c.in_ok-store.store.quads _ test c.args.quad.now t (subst (λ p. IsPart test p quads) c.in_ok-store.was h) (ap (λ (s : Stored). s.quads) c.in-Ok.ensures.ok)
