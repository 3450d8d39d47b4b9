use Rattle.std.proofs.Common.{refl, subst, inl, inr, ℕ, List, Option}
use Rattle.rdf_keeper.specs.Program.Sessions.{LoadsFurther}
use Rattle.rdf_keeper.proofs.program.several.begun_with_all.Goals as goal

pub returns-in-Ok : goal.returns-in-Ok
returns-in-Ok g c =
    let mid : g.row.F.Denot × Option (List ℕ) = (c.begun_first.new.folder, g.R.Read.remaining c.begun_first.new.reader) in
    let end : g.row.F.Denot × Option (List ℕ) = (c.with_further.new.folder, g.R.Read.remaining c.with_further.new.reader) in
    inr (c.in-Ok.start, mid, c.in-Ok.ensures, subst (λ words. LoadsFurther g.F.Folder.step words c.in-Ok.start mid c.with_further.result end) c.as_slice.ensures.value c.with_further.ensures)

pub returns-in-Err : goal.returns-in-Err
returns-in-Err g c = inl (c.in-Err.outcome, c.in-Err.ensures, refl)
