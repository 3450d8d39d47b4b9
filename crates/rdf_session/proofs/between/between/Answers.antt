use Rattle.std.proofs.Common.{◌∙◌, arith}
use Rattle.rdf_session.proofs.SpanLemmas.{counter_behind}
use Rattle.rdf_session.proofs.between.between.Goals as goal

pub returns : goal.returns
returns c = λ base nets is.
    c.reversed.ensures.between _ _
    (c.in_ok-net.ensures base nets (c.after.ensures ∙ counter_behind base c.args.entries.now.items c.args.from _ nets (omega arith) c.requires.from_within c.index.ensures))
