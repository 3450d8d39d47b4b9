use Rattle.std.proofs.Common.{refl}
use Rattle.rdf_lines.proofs.PieceLemmas.{line_at, front_only}
use Rattle.rdf_lines.proofs.cut.whole_line.Goals as goal

pub returns-in-Some : goal.returns-in-Some
returns-in-Some c =
    line_at c.args.behind_return _ c.args.piece.now c.split_at.result.1.now c.feed_len-start.result c.in-Some.i c.feed_len-start.ensures.value c.split_at.ensures.back c.in-Some.ensures.first
    refl

pub returns-in-None : goal.returns-in-None
returns-in-None c =
    front_only c.args.behind_return c.args.piece.now c.split_at.result.1.now c.feed_len-start.result c.feed_len-start.ensures.value c.split_at.ensures.back c.in-None.ensures.first
