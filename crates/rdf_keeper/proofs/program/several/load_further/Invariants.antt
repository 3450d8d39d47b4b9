use Rattle.std.proofs.Common.{ℕ, List, drop}
use Rattle.std.specs.Prelude.{Option, Result}
use Rattle.rdf_session.specs.Session.{Session}
use Rattle.rdf_keeper.specs.Program.Sessions.{LoadsFurther}
use Rattle.rdf_keeper.specs.declared.program.outcome.Outcome.{Outcome}
use Rattle.rdf_keeper.proofs.program.several.load_further.Given as goal

-- what is left, loaded behind what was, is all
abbrev pub invariant-loop-word : goal.invariant-loop-word
invariant-loop-word g l =
    (result : Result Session Outcome) (new : g.row.F.Denot × Option (List ℕ))
    → LoadsFurther g.F.Folder.step (drop l.word-index l.words) l.keeper (l.folder, g.R.Read.remaining l.reader) result new
    → LoadsFurther g.F.Folder.step l.words l.fn.keeper (l.fn.folder, g.R.Read.remaining l.fn.reader) result new
