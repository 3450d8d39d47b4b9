use Rattle.std.proofs.Common.{ap, List, ℕ}
use Rattle.rdf_lines.specs.Pieces.{Held}
use Rattle.rdf_lines.proofs.PieceLemmas.{advanced}
use Rattle.rdf_lines.proofs.pieces.Pieces.advance.Goals as goal

pub returns : goal.returns
returns c =
    let i = c.self.inside in
    rw (← c.self.view_is) (ap (λ (h : List ℕ). let r : Held = record { held = h; calls = i.calls } in r)
    (advanced i.buffer.items i.start i.end c.args.n c.self.invariant.0 (rw (← c.self.view_is) at c.requires)))
