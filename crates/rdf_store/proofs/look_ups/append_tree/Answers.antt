use Rattle.std.proofs.Common.{arith, ◌∙◌, ap, map, ◌++◌}
use Rattle.std.proofs.lemmas.Grind.{common_steps}
use Rattle.std.proofs.lemmas.Map.Views.{All-turn}
use Rattle.rdf_orders.specs.Quads.{quad_of}
use Rattle.rdf_store.specs.Inside.Numbers.{HasTerms, parts_of}
use Rattle.rdf_store.proofs.ListLemmas.{all_given}
use Rattle.rdf_store.proofs.look_ups.append_tree.Goals as goal

pub append_quad-requires : goal.append_quad-requires
append_quad-requires c =
    All-turn (λ k. k) (λ key. HasTerms c.args.table.now (quad_of key)) _ _ _ _ _ _ _ c.requires (c.into_iter-key-iterator.ensures.into_iter_gives ∙ c.iter-key-items.ensures) c.loop-key.yielded_by c.in-Some.is c.next.ensures.steps

pub returns-clause-ok : goal.returns-clause-ok
returns-clause-ok c =
    c.loop-key.invariant ∙ ap (λ ks. c.args.out.now.items ++ map (parts_of c.args.table.now) ks)
    (all_given _ _ _ _ _ _ (c.into_iter-key-iterator.ensures.into_iter_gives ∙ c.iter-key-items.ensures) c.loop-key.yielded_by c.in-None.is c.next.ensures.steps)

pub loop-key-preserved : goal.loop-key-preserved
loop-key-preserved c = grind (arith, common_steps)

pub returns-in_err-or_truncate-clause-err : goal.returns-in_err-or_truncate-clause-err
returns-in_err-or_truncate-clause-err c = grind (arith, common_steps)
