use Rattle.std.proofs.Common.{◌∙◌, ap, rules, FitsSigned}
use Rattle.std.specs.Int.{w128}
use Rattle.std.proofs.lemmas.Int.{to_z-of_z}
use Rattle.sparql_values.specs.Values.{is_not_zero}
use Rattle.sparql_values.proofs.FormLemmas.{truth_some}
use Rattle.sparql_values.proofs.literal.integer_truth.Goals as goal

pub returns-in-Some : goal.returns-in-Some
returns-in-Some c =
    let fits : FitsSigned w128 c.in-Some.number = search rules in
    truth_some c.args.literal.now c.in-Some.number c.is_not_zero.result c.in-Some.ensures
    (c.is_not_zero.ensures ∙ ap is_not_zero (to_z-of_z w128 c.in-Some.number fits))
