use Rattle.sparql_eval.proofs.NetLemmas.{modify_net}
use Rattle.sparql_eval.proofs.net.net_of_modify.Goals as goal

pub returns-clause-made : goal.returns-clause-made
returns-clause-made g c =
    let made = c.in_ok-gone.field-0 in
    modify_net (g.S.Source.contents c.args.under.now) c.args.operation.now made.gone.items made.blanks made.come.items c.in_ok-of_exchange.field-0
    c.in_ok-gone.ensures.made c.in_ok-of_exchange.ensures.sound c.in_ok-of_exchange.ensures.net
