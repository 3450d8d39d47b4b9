use Rattle.std.proofs.Common.{◌∙◌, ap, sym, arith}
use Rattle.rdf_terms.specs.Reference.{Components}
use Rattle.rdf_terms.proofs.MovingLemmas.{layout_within, moved_end_result, none_copied, empty_from}
use Rattle.rdf_terms.proofs.moving.moved.Goals as goal

pub with_end-requires-clause-small : goal.with_end-requires-clause-small
with_end-requires-clause-small c =
    let w = layout_within c.args.base.now c.args.layout c.requires.scheme c.requires.layout in omega arith

pub with_end-requires-clause-order : goal.with_end-requires-clause-order
with_end-requires-clause-order c = (layout_within c.args.base.now c.args.layout c.requires.scheme c.requires.layout).1

pub returns-in-empty : goal.returns-in-empty
returns-in-empty c =
    moved_end_result c.args.base.now c.args.reference.now c.of-parts.result c.args.layout c.with_end.result c.requires.scheme c.requires.layout c.of-parts.ensures
    (sym (ap (λ (p : Components). p.authority) c.parts.view_is) ∙ none_copied c.parts.inside.authority (sym c.if-is_some.ensures))
    (sym (ap (λ (p : Components). p.path) c.parts.view_is) ∙ empty_from c.parts.inside.path.now c.in-empty.len_below)
    c.with_end.ensures.kept c.with_end.ensures.added c.with_end.ensures.layout
