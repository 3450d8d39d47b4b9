use Rattle.std.proofs.Common.{◌∙◌, ap, map, subst, sym}
use Rattle.std.specs.Prelude.{All, IsPermutation, IsSorted}
use Rattle.std.proofs.lemmas.List.Sorted.{All-permutation, IsPermutation-map}
use Rattle.rdf_terms.specs.Order.{quad_cmp}
use Rattle.rdf_store.specs.Inside.Ranks.{HasRanks, parts_ranked, terms_in}
use Rattle.rdf_store.proofs.RankLemmas.{ranked_order_is, ranked_sorted}
use Rattle.rdf_store.proofs.ResultLemmas.{if_ok_to}
use Rattle.rdf_store.proofs.ranks.Ranks.sorted_quads.Goals as goal

pub quads-requires : goal.quads-requires
quads-requires c =
    subst (All (HasRanks (terms_in c.args.self.now.terms.items))) (sym c.as_slice.ensures.value)
    (All-permutation (HasRanks (terms_in c.args.self.now.terms.items)) _ _ c.sort_unstable.ensures.permutation c.requires.has)

pub returns-clause-same : goal.returns-clause-same
returns-clause-same c =
    let f = parts_ranked (terms_in c.args.self.now.terms.items) in
    if_ok_to c.quads.result (λ quads e. subst (IsPermutation (map f c.args.all.items)) (sym (e ∙ ap (map f) c.as_slice.ensures.value))
    (IsPermutation-map f c.args.all.items c.sort_unstable.new.self.items c.sort_unstable.ensures.permutation)) c.quads.ensures

pub returns-clause-sorted : goal.returns-clause-sorted
returns-clause-sorted c =
    let ranks = terms_in c.args.self.now.terms.items in
    let f = parts_ranked ranks in
    if_ok_to c.quads.result (λ quads e. subst (IsSorted quad_cmp) (sym (e ∙ ap (map f) c.as_slice.ensures.value))
    (ranked_sorted ranks c.requires.rises c.sort_unstable.new.self.items (All-permutation (HasRanks ranks) _ _ c.sort_unstable.ensures.permutation c.requires.has)
    (subst (λ cmp. IsSorted cmp c.sort_unstable.new.self.items) ranked_order_is c.sort_unstable.ensures.sorted))) c.quads.ensures
