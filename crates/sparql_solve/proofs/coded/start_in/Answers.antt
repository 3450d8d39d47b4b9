use Rattle.std.proofs.Common.{Some, ap, sym, ◌∙◌}
use Rattle.std.specs.Option.{option_map}
use Rattle.sparql_values.specs.Mapping.{value_at}
use Rattle.sparql_solve.proofs.CodedRowLemmas.{begins_alike, begins_none}
use Rattle.sparql_solve.proofs.coded.start_in.Goals as goal

pub returns-in-Some-clause-begins : goal.returns-in-Some-clause-begins
returns-in-Some-clause-begins c =
    begins_alike c.args.start.now c.as_bytes.result.now c.shared_bytes.result (value_at c.args.row.now c.args.column)
    (sym c.text_at.ensures ∙ ap (option_map (λ t. t.now)) c.in-Some.is ∙ ap Some (sym c.as_bytes.ensures.value))
    c.shared_bytes.ensures.within c.shared_bytes.ensures.within_other c.shared_bytes.ensures.alike

pub returns-in-None-clause-begins : goal.returns-in-None-clause-begins
returns-in-None-clause-begins c = begins_none _ _ (sym c.text_at.ensures ∙ ap (option_map (λ t. t.now)) c.in-None.is)
