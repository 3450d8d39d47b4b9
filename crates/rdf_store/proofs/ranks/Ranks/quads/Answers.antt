use Rattle.std.proofs.Common.{◌∙◌, ap, subst, sym, [], ◌∷◌, ◌++◌, map}
use Rattle.std.proofs.lemmas.List.{map_more, take_all}
use Rattle.rdf_store.specs.Inside.Ranks.{HasRanks, parts_ranked, terms_in}
use Rattle.rdf_store.proofs.ranks.Ranks.quads.Goals as goal

pub loop-ranked-init : goal.loop-ranked-init
loop-ranked-init c = c.in_ok-quads.ensures.items

pub quad-requires : goal.quad-requires
quad-requires c =
    subst (HasRanks (terms_in c.args.self.now.terms.items)) (sym c.ranked-item.is)
    (c.requires c.loop-ranked.ranked-index c.ranked-item.result c.loop-ranked-test.true)

pub loop-ranked-preserved : goal.loop-ranked-preserved
loop-ranked-preserved c =
    let f = parts_ranked (terms_in c.args.self.now.terms.items) in
    c.in_ok-push.ensures.items ∙ (λ i. c.loop-ranked.invariant i ++ (c.in_ok-quad.ensures ∙ ap f c.ranked-item.is) i ∷ [])
    ∙ sym (map_more f c.args.all.now c.loop-ranked.ranked-index c.ranked-item.result c.loop-ranked-test.true)

pub returns : goal.returns
returns c =
    c.loop-ranked.invariant
    ∙ ap (map (parts_ranked (terms_in c.args.self.now.terms.items))) (take_all c.loop-ranked.ranked-index c.args.all.now c.loop-ranked-test.false)
