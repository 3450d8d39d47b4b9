use Rattle.std.proofs.Common.{subst, ◌≡◌, []}
use Rattle.rdf_keeper.specs.Script.Lines.{upto_last_end}
use Rattle.rdf_keeper.specs.Script.Pieces.{Fed}
use Rattle.rdf_keeper.proofs.script.feed.Feed.line_is_open.Goals as goal

pub returns : goal.returns
returns c = subst (λ (f : Fed). upto_last_end f.pending.line ≡ []) c.self.view_is c.self.invariant
