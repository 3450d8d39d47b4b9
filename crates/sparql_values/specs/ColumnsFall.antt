-- Each side of a fork has fewer columns than the fork.
use Rattle.std.specs.Prelude.{◌≤◌, max, length}
use Rattle.std.proofs.Common.{arith, length-append}
use Rattle.sparql_values.specs.Columns.{values, IsRight}
use Rattle.sparql_values.specs.declared.columns.Form.{Form}
use Rattle.sparql_values.specs.declared.columns.Form.TheVariants.{Plain, Nothing, Fork}
use Rattle.sparql_values.specs.declared.columns.Columns.TheDeep.{deep-Form}

-- no side is as deep as the form has columns
pub sides_are_shorter : (f : Form) → IsRight f → max (deep-Form f) 0 ≤ length (values f)
sides_are_shorter (Plain xs) h = omega arith
sides_are_shorter (Nothing columns) h = omega arith
sides_are_shorter (Fork first many others) h = omega (arith, length-append first.value others.value, h.some_first, h.some_others)
