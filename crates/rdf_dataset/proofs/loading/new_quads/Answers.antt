use Rattle.std.proofs.Common.{◌∙◌, ap, not, rules}
use Rattle.std.proofs.lemmas.Fn.{filter_same}
use Rattle.std.specs.FinSet as set
use Rattle.rdf_terms.specs.Order.{quad_cmp}
use Rattle.rdf_dataset.proofs.LoadingLemmas.{new_ones}
use Rattle.rdf_dataset.proofs.loading.new_quads.Goals as goal

pub returns : goal.returns
returns g c =
    let s = (g.D.Source.contents c.args.under.now).quads in
    let kept = filter_same _ (λ x. not (set.contains s x)) _ (λ x b f k. search rules) _ _ c.retain.ensures.filtered in
    c.from_list.ensures ∙ ap (set.from_list {R = quad_cmp}) kept ∙ new_ones s c.args.quads.items
