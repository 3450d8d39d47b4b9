use Rattle.std.proofs.Common.{arith, ap, sym, ◌∙◌}
use Rattle.std.proofs.lemmas.List.{drop_all}
use Rattle.sparql_eval.specs.Operations.{steps}
use Rattle.sparql_eval.proofs.UnreadLemmas.{nothing_net, unread_net}
use Rattle.sparql_eval.proofs.unread.net_of_unread.Goals as goal

pub returns-in_default-clause-made : goal.returns-in_default-clause-made
returns-in_default-clause-made g c =
    nothing_net (g.S.Source.contents c.args.under.now) c.args.operations.now c.over.result c.in_ok-into_net.field-0 (omega (arith, c.in_default.len_below)) c.over.ensures c.into_net.ensures.sound c.in_ok-into_net.ensures.net

pub returns-clause-made : goal.returns-clause-made
returns-clause-made g c =
    unread_net (g.S.Source.contents c.args.under.now) c.args.operations.now c.loop-operation.unread c.in_ok-into_net-2.field-0 c.loop-operation.invariant.beneath
    (sym c.loop-operation.invariant.left ∙ ap (steps c.loop-operation.unread.now) (drop_all _ _ c.loop-operation-test.false)) c.into_net-2.ensures.sound c.in_ok-into_net-2.ensures.net
