use Rattle.std.proofs.Common.{◌∙◌}
use Rattle.std.proofs.lemmas.Map.Views.{All-turn}
use Rattle.rdf_orders.specs.Quads.{quad_of}
use Rattle.rdf_store.specs.Inside.Numbers.{HasTerms}
use Rattle.rdf_store.proofs.ranks.Ranks.of_fronts.Goals as goal

pub add_front-requires-clause-terms : goal.add_front-requires-clause-terms
add_front-requires-clause-terms c =
    All-turn (λ k. k) (λ key. HasTerms c.args.table.now (quad_of key)) _ _ _ _ _ _ _ c.requires (c.into_iter-key-iterator.ensures.into_iter_gives ∙ c.iter-key-items.ensures) c.loop-key.yielded_by c.in-Some.is c.next.ensures.steps
