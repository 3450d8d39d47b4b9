use Rattle.std.proofs.Common.{arith}
use Rattle.rdf_grammar.proofs.LexemeReadings.{few_bytes}
use Rattle.rdf_grammar.proofs.rest.count_read.Goals as goal

pub returns : goal.returns
returns g c =
    omega (arith, c.loop-count.invariant, few_bytes g.T.Terminal.of c.args.text.now, c.left-most.ensures.bytes, c.loop-count.auto.count-end, c.loop-count-test.false)
