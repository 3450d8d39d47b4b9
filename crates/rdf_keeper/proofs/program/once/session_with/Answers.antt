use Rattle.std.proofs.Common.{refl, inr, ℕ, List, Option}
use Rattle.rdf_keeper.proofs.program.once.session_with.Goals as goal

pub returns : goal.returns
returns g c =
    let start : g.row.F.Denot × Option (List ℕ) = (c.args.folder.now, g.R.Read.remaining c.args.reader.now) in
    inr (c.in_ok-base.base, start, (c.in_ok-base.ensures, refl), c.begun_with_all-started.ensures)
