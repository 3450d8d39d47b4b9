use Rattle.rdf_store.proofs.RankLemmas.{sorted_ranked}
use Rattle.rdf_store.proofs.ranks.Ranks.sort.Goals as goal

pub returns : goal.returns
returns c table once numbered =
    sorted_ranked table once _ _ _ numbered c.sort_unstable.ensures.permutation c.sort_unstable.ensures.sorted c.dedup.ensures.filtered
