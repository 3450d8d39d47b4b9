use Rattle.std.proofs.Common.{false, sym, ap, ◌∙◌}
use Rattle.rdf_terms.specs.Skips.{skip}
use Rattle.rdf_tokens.specs.Characters.{is_white}
use Rattle.rdf_tokens.specs.Inside.TokenReading.{skip_gap}
use Rattle.rdf_tokens.proofs.TokenGaps.{gap_over_white, gap_over_comment, comment_shorter, gap_done, skip_again}
use Rattle.rdf_tokens.proofs.gap.skip_gap.Goals as goal

pub loop-comment-init : goal.loop-comment-init
loop-comment-init c =
    let e = c.skip_white-rest.ensures in
    (ap (skip_gap false) e ∙ gap_over_white c.args.cursor.now, ap (skip is_white) e ∙ skip_again is_white c.args.cursor.now ∙ sym e)

pub loop-comment-smaller : goal.loop-comment-smaller
loop-comment-smaller c =
    comment_shorter c.loop-comment.rest c.in-Some.comment c.skip_line-line_end.result c.skip_white-rest-in-Some.result (sym c.in-Some.ensures) c.skip_line-line_end.ensures c.skip_white-rest-in-Some.ensures

pub loop-comment-preserved : goal.loop-comment-preserved
loop-comment-preserved c =
    let e = c.skip_white-rest-in-Some.ensures in (
      gap_over_comment c.loop-comment.rest c.in-Some.comment c.skip_line-line_end.result c.skip_white-rest-in-Some.result (sym c.in-Some.ensures) c.skip_line-line_end.ensures e
          ∙ c.loop-comment.invariant.0,
      ap (skip is_white) e ∙ skip_again is_white c.skip_line-line_end.result ∙ sym e,
    )

pub returns : goal.returns
returns c = gap_done c.loop-comment.rest c.loop-comment.invariant.1 (sym c.in_default.ensures) ∙ c.loop-comment.invariant.0
