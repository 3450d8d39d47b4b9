use Rattle.std.proofs.Common.{rules}
use Rattle.sparql_solve.proofs.mappings.Mapping.take.Goals as goal

pub returns-then-is_known : goal.returns-then-is_known
returns-then-is_known c = search rules
