use Rattle.std.proofs.Common.{rules}
use Rattle.rdf_lines.proofs.PieceLemmas.{first_ended, first_open}
use Rattle.rdf_lines.proofs.held.first_line.Goals as goal

pub returns-in-Some-clause-lines : goal.returns-in-Some-clause-lines
returns-in-Some-clause-lines c =
    first_ended c.args.text.now _ c.split_at.result.1.now _ c.in-Some.place c.feed_len-feed.result c.in-Some.ensures (search rules) c.split_at.ensures.back c.feed_len-feed.ensures.value c.split_at-in-Some.ensures.back

pub returns-in-None-clause-lines : goal.returns-in-None-clause-lines
returns-in-None-clause-lines c =
    first_open c.args.text.now _ _ _ c.requires c.in-None.ensures (search rules) c.split_at-in-None.ensures.front c.split_at-in-None.ensures.back
