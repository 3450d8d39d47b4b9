use Rattle.std.proofs.Common.{rules}
use Rattle.rdf_lines.proofs.PieceLemmas.{part_ended, part_open}
use Rattle.rdf_lines.proofs.cut.take_part.Goals as goal

pub returns-in_ok-extend_from_slice-in-Some : goal.returns-in_ok-extend_from_slice-in-Some
returns-in_ok-extend_from_slice-in-Some c =
    part_ended c.args.pieces.now _ c.args.behind_return.now c.args.line.now.items _ c.held-held.result.now c.in-Some.place c.held-held.ensures c.in-Some.ensures (search rules) c.advance.ensures

pub returns-in_ok-extend_from_slice-in-None : goal.returns-in_ok-extend_from_slice-in-None
returns-in_ok-extend_from_slice-in-None c =
    part_open c.args.pieces.now _ c.args.behind_return.now c.args.line.now.items _ c.held-held.result.now c.split_at.result.1.now c.feed_len-feed.result _
    c.requires c.held-held.ensures c.in-None.ensures c.feed_len-feed.ensures.value c.split_at.ensures.back
    (search rules) (search rules) c.advance-in-None.ensures
