use Rattle.std.proofs.Common.{◌∙◌}
use Rattle.sparql_values.proofs.NameLemmas.{column_found}
use Rattle.sparql_values.proofs.sorted_names.SortedNames.column.Goals as goal

pub returns : goal.returns
returns c =
    c.ok.ensures.value
    ∙ rw (← c.self.view_is, ← c.as_slice-names.ensures) (column_found c.as_slice-names.result.now c.args.name.now (rw c.as_slice-names.ensures c.self.invariant)
    c.binary_search.result c.binary_search.ensures.bound c.binary_search.ensures.position)
