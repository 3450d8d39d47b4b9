use Rattle.std.proofs.Common.{refl, subst, inl, inr, map, false, ℕ, List, Option}
use Rattle.rdf_keeper.specs.Program.Words.{ChecksFiles}
use Rattle.rdf_keeper.proofs.program.check.check_words.Goals as goal

pub returns-clause-does : goal.returns-clause-does
returns-clause-does g c =
    let start : g.row.F.Denot × Option (List ℕ) × Option (List ℕ) = (c.args.folder.now, g.R.Read.remaining c.args.reader.now, g.W.Write.contents c.args.writer.now) in
    let end : g.row.F.Denot × Option (List ℕ) × Option (List ℕ) = (c.check_files.new.folder, g.R.Read.remaining c.check_files.new.reader, g.W.Write.contents c.check_files.new.writer) in
    (end.1, inr (c.in-Ok.base, start, (c.in-Ok.ensures, refl), subst (λ base. ChecksFiles g.F.Folder.step c.args.words.now.from base (map (λ path. path.now) c.args.words.now.files.items) false start c.check_files.result end) c.as_ref.ensures.value c.check_files.ensures.does))

pub returns-in-Err-clause-does : goal.returns-in-Err-clause-does
returns-in-Err-clause-does g c = (g.R.Read.remaining c.args.reader.now, inl (c.in-Err.ensures, refl))
