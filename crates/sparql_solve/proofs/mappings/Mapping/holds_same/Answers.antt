use Rattle.std.proofs.Common.{sym, ◌∙◌}
use Rattle.sparql_algebra.proofs.CallerLemmas.{same_value_is}
use Rattle.sparql_solve.proofs.mappings.Mapping.holds_same.Goals as goal

pub returns-in-Column : goal.returns-in-Column
returns-in-Column c e = sym c.held.ensures ∙ same_value_is _ _ (sym c.is_same_value.ensures ∙ e) ∙ c.held-in-Column.ensures
