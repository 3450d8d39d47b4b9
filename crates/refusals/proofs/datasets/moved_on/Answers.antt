use Rattle.std.proofs.Common.{◌≡◌, sym, subst}
use Rattle.rdf_dataset.specs.State.{net_between}
use Rattle.refusals.proofs.datasets.moved_on.Goals as goal

pub returns-in-Ok-then : goal.returns-in-Ok-then
returns-in-Ok-then c =
    let there = c.requires.first in
    let beyond = c.requires.second in
    let back = c.reversed.ensures.between c.args.dataset.now there.0 there.2 in
    (beyond.0, beyond.1, subst (λ s. c.in-Ok-then.net ≡ net_between s beyond.0) (sym (c.in-Ok.ensures.ok there.0 there.2)) (c.in-Ok-then.ensures there.0 c.args.dataset.now beyond.0 back beyond.2))
