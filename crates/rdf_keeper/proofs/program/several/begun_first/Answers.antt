use Rattle.std.proofs.Common.{sym, subst, ℕ, List, Option}
use Rattle.rdf_keeper.specs.Program.Sessions.{BeginsFirst}
use Rattle.rdf_keeper.proofs.program.several.begun_first.Goals as goal

pub returns-in-Some : goal.returns-in-Some
returns-in-Some g c =
    let start : g.row.F.Denot × Option (List ℕ) = (c.args.folder.now, g.R.Read.remaining c.args.reader.now) in
    let end : g.row.F.Denot × Option (List ℕ) = (c.begun_by_named.new.folder, g.R.Read.remaining c.begun_by_named.new.reader) in
    subst (λ first. BeginsFirst g.F.Folder.step first c.args.base start c.begun_by_named.result end) (sym c.in-Some.is) c.begun_by_named.ensures
