use Rattle.std.proofs.Common.{sym, ◌∙◌}
use Rattle.std.specs.Option.{option_copied}
use Rattle.sparql_values.specs.Mapping.{same_value}
use Rattle.sparql_solve.proofs.values.is_same_value.Goals as goal

pub returns-in-Some-Some : goal.returns-in-Some-Some
returns-in-Some-Some c = c.is_same.ensures ∙ sym (λ i. same_value (option_copied (c.in-Some-Some.is-0 i)) (option_copied (c.in-Some-Some.is-1 i)))
