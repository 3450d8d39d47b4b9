use Rattle.std.proofs.Common.{subst, inl, inr, map, false}
use Rattle.std.specs.Option.{option_copied}
use Rattle.rdf_keeper.specs.Program.Words.{ChecksFiles}
use Rattle.rdf_keeper.proofs.SeveralLemmas.{files_at, files_done}
use Rattle.rdf_keeper.proofs.program.check.check_files.Goals as goal

pub loop-path-init : goal.loop-path-init
loop-path-init g c outcome new checks =
    subst (λ paths. ChecksFiles g.F.Folder.step c.args.words.now.from (option_copied c.args.base) (map (λ path. path.now) paths) false (c.args.folder.now, g.R.Read.remaining c.args.reader.now, g.W.Write.contents c.args.writer.now) outcome new) c.as_slice-path-items.ensures.value checks

pub loop-path-preserved : goal.loop-path-preserved
loop-path-preserved g c outcome new checks =
    c.loop-path.invariant outcome new
    (files_at g.F.Folder.step c.args.words.now.from (option_copied c.args.base) (λ path. path.now) c.as_slice-path-items.result.now c.loop-path.path-index _ _ _ _ _ c.loop-path-test.true
    (inr (c.in-Ok.sound, _, c.in-Ok.ensures.does, checks)))

pub returns-in-Err-clause-does : goal.returns-in-Err-clause-does
returns-in-Err-clause-does g c =
    c.loop-path.invariant _ _ (files_at g.F.Folder.step c.args.words.now.from (option_copied c.args.base) (λ path. path.now) c.as_slice-path-items.result.now c.loop-path.path-index _ _ _ _ _ c.loop-path-test.true (inl c.in-Err.ensures.does))

pub returns-then-refused-clause-does : goal.returns-then-refused-clause-does
returns-then-refused-clause-does g c =
    c.loop-path.invariant _ _ (files_done g.F.Folder.step c.args.words.now.from (option_copied c.args.base) (λ path. path.now) c.as_slice-path-items.result.now c.loop-path.path-index _ _ _ c.loop-path-test.false c.if-refused.true)

pub returns-else-refused-clause-does : goal.returns-else-refused-clause-does
returns-else-refused-clause-does g c =
    c.loop-path.invariant _ _ (files_done g.F.Folder.step c.args.words.now.from (option_copied c.args.base) (λ path. path.now) c.as_slice-path-items.result.now c.loop-path.path-index _ _ _ c.loop-path-test.false c.if-refused.false)
