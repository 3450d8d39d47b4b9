use Rattle.std.proofs.Common.{◌∙◌, ap, map}
use Rattle.std.proofs.lemmas.Map.Views.{All-turn}
use Rattle.rdf_orders.specs.Quads.{quad_of}
use Rattle.rdf_store.specs.Inside.Numbers.{HasTerms, parts_of}
use Rattle.rdf_store.specs.Inside.Ranks.{HasRanks, parts_ranked, terms_in}
use Rattle.rdf_store.proofs.ListLemmas.{all_given}
use Rattle.rdf_store.proofs.RankLemmas.{all_more, mapped_more}
use Rattle.rdf_store.proofs.ranks.Ranks.all_ranked.Goals as goal

pub ranked-requires-clause-terms : goal.ranked-requires-clause-terms
ranked-requires-clause-terms c =
    All-turn (λ k. k) (λ key. HasTerms c.args.table.now (quad_of key)) _ _ _ _ _ _ _ c.requires.terms (c.into_iter-key-iterator.ensures.into_iter_gives ∙ c.iter-key-items.ensures) c.loop-key.yielded_by c.in-Some.is c.next.ensures.steps

pub loop-key-preserved : goal.loop-key-preserved
loop-key-preserved c = record {
  has = all_more (HasRanks (terms_in c.args.self.now.terms.items)) c.loop-key.all.items _ c.in-Some-ranked.ranked c.in_ok-push.ensures.items c.loop-key.invariant.has c.in-Some-ranked.ensures.has;
  are = mapped_more (parts_ranked (terms_in c.args.self.now.terms.items)) (parts_of c.args.table.now) c.loop-key.all.items _ c.loop-key.yielded c.in-Some-ranked.ranked c.in-Some.key
      c.in_ok-push.ensures.items c.loop-key.invariant.are c.in-Some-ranked.ensures.is;
}

pub returns-clause-are : goal.returns-clause-are
returns-clause-are c =
    c.loop-key.invariant.are ∙ ap (map (parts_of c.args.table.now))
    (all_given _ _ _ _ _ _ (c.into_iter-key-iterator.ensures.into_iter_gives ∙ c.iter-key-items.ensures) c.loop-key.yielded_by c.in-None.is c.next.ensures.steps)
