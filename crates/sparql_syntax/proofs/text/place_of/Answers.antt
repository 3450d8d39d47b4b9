use Rattle.std.proofs.Common.{◌∙◌, ◌-◌, ap}
use Rattle.sparql_syntax.proofs.TellLemmas.{stop_at}
use Rattle.sparql_syntax.proofs.text.place_of.Goals as goal

pub returns : goal.returns
returns c =
    stop_at c.args.text.now c.over.result c.args.left c.saturating_sub.result c.start_of.result c.over.ensures.read
    (c.saturating_sub.ensures ∙ ap (λ n. n - c.args.left) c.left-all.ensures) c.start_of.ensures
