use Rattle.std.proofs.Common.{◌∙◌, ap, rules}
use Rattle.std.proofs.lemmas.Fn.{filter_same}
use Rattle.std.specs.FinSet as set
use Rattle.rdf_terms.specs.Order.{quad_cmp}
use Rattle.rdf_dataset.specs.State.{Quads}
use Rattle.rdf_dataset.proofs.ExchangeLemmas.{lost_ones}
use Rattle.rdf_dataset.proofs.exchange.lost_quads.Goals as goal

pub returns : goal.returns
returns g c =
    let s = (g.D.Source.contents c.args.under.now).quads in
    let come : Quads = set.from_list c.args.come.now in
    let kept = filter_same _ (set.contains s) _ (λ x b f k. search rules) _ _ c.retain.ensures.filtered in
    c.subtract.ensures
    ∙ (λ i. set.difference (c.from_list-lost.ensures i) (set.from_list (c.as_slice.ensures.items i)))
    ∙ ap (λ x. set.difference (set.from_list {R = quad_cmp} x) come) kept
    ∙ lost_ones s c.args.gone.items come
