use Rattle.std.proofs.Common.{sym, subst}
use Rattle.rdf_dataset.specs.Inside.Emptied.{AreHeld}
use Rattle.rdf_dataset.proofs.EmptiedLemmas.{gained_elsewhere, gained_there}
use Rattle.rdf_dataset.proofs.emptied.gained_apart.Goals as goal

pub returns-then-not-has_name : goal.returns-then-not-has_name
returns-then-not-has_name c quads g h =
    gained_elsewhere c.in_ok-held.held quads c.args.quad.now c.args.name.now g (sym c.if-not-has_name.ensures) (subst (λ p. AreHeld p quads) c.in_ok-held.was h)

pub returns-in-Ok : goal.returns-in-Ok
returns-in-Ok c quads g h =
    gained_there c.in_ok-held.held quads c.args.quad.now c.args.name.now _ g (sym c.if-not-has_name.ensures) c.in-Ok.ensures.ok (subst (λ p. AreHeld p quads) c.in_ok-held.was h)
