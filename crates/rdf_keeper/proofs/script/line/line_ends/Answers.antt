use Rattle.std.proofs.Common.{arith}
use Rattle.rdf_keeper.proofs.ScriptLemmas.LineEnds.{next_ends, none_ends}
use Rattle.rdf_keeper.proofs.script.line.line_ends.Goals as goal

pub loop-behind-preserved : goal.loop-behind-preserved
loop-behind-preserved c = (
  next_ends c.loop-behind.rest.now c.in-Some.field-0-0.now c.in-Some.behind.now c.loop-behind.ends _ c.in-Some.ensures.line.0 c.in-Some.ensures.line.1 c.loop-behind.invariant.0,
  omega (arith, c.loop-behind.invariant.1, c.in-Some.ensures.falls),
)

pub returns : goal.returns
returns c = none_ends c.loop-behind.rest.now c.loop-behind.ends _ c.in_default.ensures.line c.loop-behind.invariant.0
