use Rattle.std.proofs.Common.{◌∙◌}
use Rattle.std.specs.Str.{chars}
use Rattle.rdf_tokens.proofs.SliceLemmas.{placed, token_stands, in_order, start_boundary, stop_boundary, cut_chars, stands_as}
use Rattle.rdf_tokens.proofs.slice.slice_of.Goals as goal

pub range-requires-clause-start_le_end : goal.range-requires-clause-start_le_end
range-requires-clause-start_le_end c =
    in_order c.args.text.now c.args.token.now.start c.args.token.now.stop c.requires.1
    (placed c.args.text.now c.args.token.now.start c.args.token.now.stop c.requires.1 c.utf8.text (token_stands (chars c.args.text.now) c.args.token.now c.requires))

pub range-requires-clause-start_boundary : goal.range-requires-clause-start_boundary
range-requires-clause-start_boundary c =
    λ _. start_boundary c.args.text.now c.args.token.now.start c.args.token.now.stop c.requires.1
    (placed c.args.text.now c.args.token.now.start c.args.token.now.stop c.requires.1 c.utf8.text (token_stands (chars c.args.text.now) c.args.token.now c.requires))

pub range-requires-clause-end_boundary : goal.range-requires-clause-end_boundary
range-requires-clause-end_boundary c =
    stop_boundary c.args.text.now c.args.token.now.start c.args.token.now.stop c.requires.1
    (placed c.args.text.now c.args.token.now.start c.args.token.now.stop c.requires.1 c.utf8.text (token_stands (chars c.args.text.now) c.args.token.now c.requires))

pub returns : goal.returns
returns c =
    let stands = token_stands (chars c.args.text.now) c.args.token.now c.requires in
    let place = placed c.args.text.now c.args.token.now.start c.args.token.now.stop c.requires.1 c.utf8.text stands in
    stands_as (chars c.args.text.now) c.args.token.now.start c.args.token.now.stop c.requires.1 c.new.result
    (c.new.ensures ∙ cut_chars c.args.text.now c.args.token.now.start c.args.token.now.stop c.requires.1 c.range.result.now place c.range.ensures.value) stands
