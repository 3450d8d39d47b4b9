use Rattle.std.proofs.Common.{ap, refl, inl, inr}
use Rattle.std.specs.Prelude.{Ok}
use Rattle.rdf_keeper.proofs.program.session_of.Goals as goal

pub returns-in-Ok : goal.returns-in-Ok
returns-in-Ok g c =
    let folder = c.args.folder.now in
    inr (
      c.in_ok-depth.depth,
      folder,
      (c.in_ok-depth.ensures, refl),
      inr (
        c.in_ok-base.base,
        folder,
        (c.in_ok-base.ensures, refl),
        inr (c.in-Ok.keeper, c.begun.new.folder, c.in-Ok.ensures.begins, (ap (λ start. Ok start) c.bounded.ensures, refl)),
      ),
    )

pub returns-in-Err : goal.returns-in-Err
returns-in-Err g c =
    let folder = c.args.folder.now in
    inr (
      c.in_ok-depth.depth,
      folder,
      (c.in_ok-depth.ensures, refl),
      inr (
        c.in_ok-base.base,
        folder,
        (c.in_ok-base.ensures, refl),
        inl (c.in-Err.outcome, c.in-Err.ensures.begins, refl),
      ),
    )
