use Rattle.std.proofs.Common.{◌∙◌, ap, ◌-◌}
use Rattle.rdf_tokens.proofs.WalkLemmas.{step_token, step_none, step_end, goes_on, goes_no_more}
use Rattle.rdf_tokens.proofs.walk.TokenWalk.next.Goals as goal
use Rattle.rdf_tokens.proofs.walk.TokenWalk.next.Goals.{in-Token, in-End, in-NoToken}

pub returns : goal.returns
returns c =
    let size = c.self.inside.size in
    let at = c.saturating_sub-start.ensures ∙ ap (λ n. size - n) c.left_behind_gap.ensures in
    elim c.match-next.branch [
      | in-Token w ↦ goes_on _ _ _ _ _ c.self.view_is w.result-is (step_token size c.self.inside.reader c.next.new.self w.in-Token.slice w.in-Token.kind _ w.in-Token.ensures at)
      | in-End w ↦ goes_no_more _ _ _ _ c.self.view_is w.result-is (step_end size c.self.inside.reader c.next.new.self w.in-End.ensures)
      | in-NoToken w ↦ goes_on _ _ _ _ _ c.self.view_is w.result-is (step_none size c.self.inside.reader c.next.new.self _ w.in-NoToken.ensures at)
    ]
