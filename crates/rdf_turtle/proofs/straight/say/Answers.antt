use Rattle.rdf_turtle.proofs.StraightReading.{look_lacking}
use Rattle.rdf_turtle.proofs.straight.say.Goals as goal

pub returns-in-Err-Relative : goal.returns-in-Err-Relative
returns-in-Err-Relative g c = look_lacking c.look.result _ _ _ _ _ c.look.ensures (rw c.in-Err-Relative.field-0-is at c.in-Err-Relative.ensures.gives)

pub returns-in-Err-UnknownPrefix : goal.returns-in-Err-UnknownPrefix
returns-in-Err-UnknownPrefix g c = look_lacking c.look-in-Err-UnknownPrefix.result _ _ _ _ _ c.look-in-Err-UnknownPrefix.ensures (rw c.in-Err-UnknownPrefix.field-0-is at c.in-Err-UnknownPrefix.ensures.gives)
