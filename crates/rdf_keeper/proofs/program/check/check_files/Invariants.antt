use Rattle.std.proofs.Common.{ℕ, List, drop, map, false}
use Rattle.std.specs.Prelude.{Option}
use Rattle.std.specs.Option.{option_copied}
use Rattle.rdf_keeper.specs.Program.Words.{ChecksFiles}
use Rattle.rdf_keeper.specs.declared.program.outcome.Outcome.{Outcome}
use Rattle.rdf_keeper.proofs.program.check.check_files.Given as goal

-- the files that are left, checked behind those that were, are all
abbrev pub invariant-loop-path : goal.invariant-loop-path
invariant-loop-path g l =
    (outcome : Outcome) (new : g.row.F.Denot × Option (List ℕ) × Option (List ℕ))
    → ChecksFiles g.F.Folder.step l.words.from (option_copied l.base) (map (λ path. path.now) (drop l.path-index l.path-items)) l.refused (l.folder, g.R.Read.remaining l.reader, g.W.Write.contents l.writer) outcome new
    → ChecksFiles g.F.Folder.step l.words.from (option_copied l.base) (map (λ path. path.now) l.words.files.items) false (l.fn.folder, g.R.Read.remaining l.fn.reader, g.W.Write.contents l.fn.writer) outcome new
