use Rattle.std.proofs.Common.{arith, ◌∙◌}
use Rattle.sparql_eval.proofs.NetLemmas.{deletions_net}
use Rattle.sparql_eval.proofs.net.net_of_deletions.Goals as goal

pub of_exchange-requires-clause-room : goal.of_exchange-requires-clause-room
of_exchange-requires-clause-room g c = omega (arith, c.sources_are_sound.ensures.limit)

pub returns-clause-made : goal.returns-clause-made
returns-clause-made g c =
    deletions_net (g.S.Source.contents c.args.under.now) c.args.deleted.now c.in_ok-gone.gone.items c.new-come.result.items c.in_ok-of_exchange.field-0
    (c.in_ok-gone.ensures ∙ c.quads.ensures.value) c.new-come.ensures.items c.in_ok-of_exchange.ensures.net c.in_ok-of_exchange.ensures.sound
