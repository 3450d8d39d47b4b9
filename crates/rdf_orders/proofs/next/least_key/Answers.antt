use Rattle.rdf_orders.proofs.NextLemmas.{least_front}
use Rattle.rdf_orders.proofs.next.least_key.Goals as goal

pub returns-clause-least : goal.returns-clause-least
returns-clause-least c = rw c.copy_from_slice.ensures.after (least_front 4 c.args.prefix.now)
