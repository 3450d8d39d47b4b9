use Rattle.std.proofs.Common.{◌≡◌, ◌∙◌, sym, ap, true≢false, ℕ, List, length, ◌==◌}
use Rattle.rdf_lines.proofs.StatePartLemmas.{no_more_quads}
use Rattle.rdf_lines.proofs.state_text.parts.quads.Goals as goal

pub returns-in_default : goal.returns-in_default
returns-in_default c =
    let now = c.loop-rest in
    no_more_quads c.args.text.now now.quads.items now.rest.now now.invariant.0 now.invariant.1
    (λ e. true≢false (sym (ap (λ (l : List ℕ). length l == 0) e) ∙ sym c.is_empty.ensures ∙ c.loop-rest-test.true)) (rw c.in_default.is at c.in_ok-quad.ensures)
