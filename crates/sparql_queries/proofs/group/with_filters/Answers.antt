use Rattle.std.proofs.Common.{◌∙◌}
use Rattle.sparql_expressions.specs.ProperExpressions.{proper_expression}
use Rattle.sparql_queries.proofs.KnownLemmas.{all_hold}
use Rattle.sparql_queries.proofs.group.with_filters.Goals as goal

pub expressions-requires : goal.expressions-requires
expressions-requires c = record { proper = all_hold proper_expression c.args.filters.now ∙ c.requires }
