use Rattle.std.proofs.Common.{arith, ◌≡◌, ◌∙◌, ap, rules, map, ◌++◌}
use Rattle.std.proofs.lemmas.Grind.{common_steps}
use Rattle.std.proofs.lemmas.Map.Iter.{iter_end}
use Rattle.std.proofs.lemmas.Map.Views.{All-turn}
use Rattle.std.specs.Map.Iter.{deref}
use Rattle.rdf_terms.specs.Table.{IsIdOf}
use Rattle.rdf_store.specs.Inside.Numbers.{term_at}
use Rattle.rdf_store.proofs.look_ups.append_terms.Goals as goal

pub append_term-requires : goal.append_term-requires
append_term-requires c =
    All-turn deref (λ id. IsIdOf c.args.table.now id (term_at c.args.table.now id)) _ _ _ _ _ _ _ c.requires c.into_iter-number-iterator.ensures.into_iter_gives.0 c.loop-number.yielded_by c.in-Some.is c.next.ensures.steps

pub returns-clause-ok : goal.returns-clause-ok
returns-clause-ok c =
    let e : map deref c.loop-number.yielded ≡ c.args.numbers.now.keys = search (rules, iter_end) in
    c.loop-number.invariant ∙ ap (λ ns. c.args.out.now.items ++ map (term_at c.args.table.now) ns) e

pub loop-number-preserved : goal.loop-number-preserved
loop-number-preserved c = grind (arith, common_steps)

pub returns-in_err-or_truncate-clause-err : goal.returns-in_err-or_truncate-clause-err
returns-in_err-or_truncate-clause-err c = grind (arith, common_steps)
